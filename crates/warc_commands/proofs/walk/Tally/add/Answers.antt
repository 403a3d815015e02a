use Rattle.warc_commands.proofs.WalkLemmas.{tally_damage, tally_run}
use Rattle.warc_commands.proofs.walk.Tally.add.Goals as goal

pub returns-in-Records : goal.returns-in-Records
returns-in-Records c = λ pieces is. tally_run c.args.self.now pieces c.args.piece _ _ _ c.in-Records.is is

pub returns-in-Damage : goal.returns-in-Damage
returns-in-Damage c = λ pieces is. tally_damage c.args.self.now pieces c.args.piece _ _ _ c.in-Damage.is is

use Rattle.std.proofs.Common.{ap, take, ◌∙◌}
use Rattle.warc_checking.proofs.OwnFindingLemmas.{own_first}
use Rattle.warc_checking.proofs.findings.JudgingKeep.truncate.Goals as goal

pub returns : goal.returns
returns g c = λ records is. c.truncate.ensures ∙ ap (take c.args.count) is ∙ own_first c.args.count records

use Rattle.warc_answer.proofs.GiveLemmas.{fails_before_all}
use Rattle.warc_answer.proofs.laws.fails_before_all.Goals as goal

pub returns : goal.returns
returns c = fails_before_all c.one_of_three.ensures

use Rattle.warc.proofs.LawLemmas.{records_are_spelled, records_are_the_same}
use Rattle.warc.proofs.laws.records_are_spelled.Goals as goal

pub returns-clause-spelled : goal.returns-clause-spelled
returns-clause-spelled c = records_are_spelled

pub returns-clause-same : goal.returns-clause-same
returns-clause-same c = records_are_the_same c.spelling_is_unambiguous.ensures.list

use Rattle.warc_answer.proofs.HashedLaws.{ends_at_one_payload, has_one_payload}
use Rattle.warc_answer.proofs.laws.has_one_payload.Goals as goal

pub returns-clause-block : goal.returns-clause-block
returns-clause-block c = has_one_payload c.at_most_one_head.ensures c.one_of_three.ensures

pub returns-clause-path : goal.returns-clause-path
returns-clause-path c = ends_at_one_payload c.at_most_one_head.ensures c.one_of_three.ensures

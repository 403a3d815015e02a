use Rattle.warc_answer.proofs.HashedLaws.{payload_is_stored}
use Rattle.warc_answer.proofs.laws.payload_is_stored.Goals as goal

pub returns : goal.returns
returns c = payload_is_stored c.at_most_one_head.ensures

use Rattle.warc_answer.proofs.StoredLemmas.{stored_is_answered}
use Rattle.warc_answer.proofs.laws.stored_is_answered.Goals as goal

pub returns : goal.returns
returns c = stored_is_answered

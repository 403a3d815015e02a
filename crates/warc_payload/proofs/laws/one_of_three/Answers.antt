use Rattle.warc_payload.proofs.BodyLemmas.{one_of_three}
use Rattle.warc_payload.proofs.laws.one_of_three.Goals as goal

pub returns : goal.returns
returns c = one_of_three

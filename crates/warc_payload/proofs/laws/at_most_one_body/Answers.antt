use Rattle.warc_payload.proofs.LawLemmas.{at_most_one_body}
use Rattle.warc_payload.proofs.laws.at_most_one_body.Goals as goal

pub returns : goal.returns
returns c = at_most_one_body

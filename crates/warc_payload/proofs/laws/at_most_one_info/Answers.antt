use Rattle.warc_payload.proofs.LawLemmas.{at_most_one_info}
use Rattle.warc_payload.proofs.laws.at_most_one_info.Goals as goal

pub returns : goal.returns
returns c = at_most_one_info

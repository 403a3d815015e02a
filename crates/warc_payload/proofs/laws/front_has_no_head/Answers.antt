use Rattle.warc_payload.proofs.LawLemmas.{front_has_no_head}
use Rattle.warc_payload.proofs.laws.front_has_no_head.Goals as goal

pub returns : goal.returns
returns c = front_has_no_head

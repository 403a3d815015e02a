use Rattle.warc_payload.proofs.LawLemmas.{no_body_where_coded}
use Rattle.warc_payload.proofs.laws.no_body_where_coded.Goals as goal

pub returns : goal.returns
returns c = no_body_where_coded

use Rattle.warc_field.proofs.LawLemmas.{first_bad_line_is_read}
use Rattle.warc_field.proofs.laws.first_bad_line_is_read.Goals as goal

pub returns : goal.returns
returns c = first_bad_line_is_read

use Rattle.warc_segment.proofs.LawLemmas.{least_absent_is_first}
use Rattle.warc_segment.proofs.laws.least_absent_is_first.Goals as goal

pub returns : goal.returns
returns c = least_absent_is_first

use Rattle.warc_segment.proofs.LawLemmas.{joined_has_total}
use Rattle.warc_segment.proofs.laws.joined_has_total.Goals as goal

pub returns : goal.returns
returns c = joined_has_total

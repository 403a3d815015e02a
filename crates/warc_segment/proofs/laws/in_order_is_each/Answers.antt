use Rattle.warc_segment.proofs.LawLemmas.{in_order_is_each}
use Rattle.warc_segment.proofs.laws.in_order_is_each.Goals as goal

pub returns : goal.returns
returns c = in_order_is_each

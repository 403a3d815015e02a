use Rattle.warc_frame.specs.Reading.{any_fields}
use Rattle.warc_frame.proofs.ReadLemmas.{framed_read}
use Rattle.warc_frame.proofs.front.read_front.Goals as goal

pub from_checked-requires : goal.from_checked-requires
from_checked-requires g c = rw c.in_ok-block-2.ensures.items (framed_read any_fields _ _ _ _ _ _ c.in_ok-head.ensures.exact c.in_ok-block.ensures.value)

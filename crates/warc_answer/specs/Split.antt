-- What is known of the blocks after an origin's own, before they are read again. This project's own notion.
use Rattle.std.specs.Prelude.{◌≡◌, List, take, drop}
use Rattle.std.specs.List.{list_any}
use Rattle.warc_frame.specs.Count.{capped}
use Rattle.warc_segment.specs.Joined.{ReadRecord}
use Rattle.warc_segment.specs.declared.place.Place.{Place}
use Rattle.warc_answer.specs.Known.{Agrees}
use Rattle.warc_answer.specs.Payloads.{has_bad_block}
use Rattle.warc_answer.specs.Places.{len_of}
use Rattle.warc_answer.specs.declared.split.Extent.{Extent}
use Rattle.warc_answer.specs.declared.split.KnownBlocks.{KnownBlocks}

-- the sum of the lengths of places, up to the greatest number of 64 bits, and whether a record of them is truncated
pub record IsExtentOf (places : List Place) (extent : Extent) : Type 0 where
  pub len : extent.len ≡ capped (len_of places)
  pub truncated : extent.truncated ≡ list_any (λ p. p.truncated) places

-- verdicts on joined blocks are right
pub record AreRight (known : KnownBlocks) (joined : List ReadRecord) : Type 0 where
  pub whole : Agrees known.whole (list_any has_bad_block joined)
  pub own : Agrees known.own (list_any has_bad_block (take 1 joined))
  pub rest : Agrees known.rest (list_any has_bad_block (drop 1 joined))

use Rattle.std.proofs.Common.{◌≡◌, length}
use Rattle.std.specs.List.{flat_map}
use Rattle.warc_frame.specs.Count.{capped}
use Rattle.warc_lent.specs.Buffers.{HoldsFront}
use Rattle.warc_lent.specs.Rows.{row_texts}
use Rattle.warc_page.proofs.front.put_texts.Given as goal

-- the texts of the rows so far, and their length
abbrev pub invariant-putting : goal.invariant-putting
invariant-putting g l = record {
  front : HoldsFront (flat_map row_texts l.yielded) l.texts;
  whole : l.taken ≡ capped (length (flat_map row_texts l.yielded));
}

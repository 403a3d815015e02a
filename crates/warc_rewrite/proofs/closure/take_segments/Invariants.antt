use Rattle.std.proofs.Common.{◌≡◌, length, take}
use Rattle.warc_frame.specs.Effects.{ReadsOnly}
use Rattle.warc_frame.specs.Seen.{IfHeld}
use Rattle.warc_reading.specs.Archive.{IsArchiveOf}
use Rattle.warc_reading.specs.Rereading.{IsInHead, heads_len}
use Rattle.warc_rewrite.specs.Marks.{AreTakenOf, HasNoSegment}
use Rattle.warc_lookup.specs.Indexed.{ArePartsOf}
use Rattle.warc_rewrite.proofs.closure.take_segments.Given as goal

-- the segments so far are marked
abbrev pub invariant-taking : goal.invariant-taking
invariant-taking g l = record {
  same : length l.marks ≡ length l.fn.marks;
  reported : IfHeld ((g.S.Source.seen l.fn.source).holds) (λ bytes. (is : IsArchiveOf bytes l.rows) → ArePartsOf is.are.records l.parts
      → HasNoSegment l.fn.marks → AreTakenOf is.are.records l.position l.fn.marks l.marks);
  reads : ReadsOnly (IsInHead l.rows) (heads_len (take l.position l.rows)) (g.S.Source.seen l.fn.source) (g.S.Source.seen l.source);
  sound : (g.S.Source.seen l.source).faults ≡ (g.S.Source.seen l.fn.source).faults;
}

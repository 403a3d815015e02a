use Rattle.std.proofs.Common.{◌*◌, ◌<◌, Ok, length, min}
use Rattle.warc_frame.specs.Effects.{Emits, ReadsOnly}
use Rattle.warc_frame.specs.Seen.{IsInRange}
use Rattle.warc_rewrite.specs.Segments.{AreSegmentTexts}
use Rattle.warc_rewrite.proofs.segments.put_segments.Given as goal

-- the texts of the segments so far were added, and nothing has failed
abbrev pub invariant-splitting : goal.invariant-splitting
invariant-splitting g l = record {
  room : 0 < length l.scratch;
  emits : Emits {X = Unit {0}} (AreSegmentTexts l.cut l.at)
      (g.S.Source.seen l.fn.source)
      (g.S.Source.seen l.source)
      (g.W.Sink.seen l.fn.out) (g.W.Sink.seen l.out)
      l.fn.buffer l.buffer (Ok (tt {0}));
  reads : ReadsOnly (IsInRange l.cut.block_start l.cut.block_len) (2 * min (l.at * l.cut.size) l.cut.block_len)
      (g.S.Source.seen l.fn.source)
      (g.S.Source.seen l.source);
}

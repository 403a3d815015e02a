use Rattle.std.proofs.Common.{take}
use Rattle.warc_rewrite.specs.Marks.{MarksSegments}
use Rattle.warc_rewrite.proofs.needs.mark_segments.Given as goal

-- the segments so far are marked
abbrev pub invariant-marking : goal.invariant-marking
invariant-marking l = MarksSegments (take l.segment-index l.segments) l.fn.marks l.marks

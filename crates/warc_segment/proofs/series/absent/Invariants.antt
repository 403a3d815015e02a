use Rattle.warc_segment.specs.Ordered.{numbers_in, CountsUp}
use Rattle.warc_segment.proofs.series.absent.Given as goal

abbrev pub invariant-loop-i : goal.invariant-loop-i
invariant-loop-i l = CountsUp (numbers_in l.series) l.i

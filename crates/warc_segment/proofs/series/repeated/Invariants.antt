use Rattle.warc_segment.specs.Ordered.{numbers_in, Rises}
use Rattle.warc_segment.proofs.series.repeated.Given as goal

abbrev pub invariant-loop-i : goal.invariant-loop-i
invariant-loop-i l = Rises (numbers_in l.series) l.i

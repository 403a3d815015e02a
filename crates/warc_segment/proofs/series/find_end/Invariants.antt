use Rattle.warc_segment.specs.Ordered.{members_of, NoTotal}
use Rattle.warc_segment.proofs.series.find_end.Given as goal

abbrev pub invariant-loop-index : goal.invariant-loop-index
invariant-loop-index l = NoTotal (members_of l.series) l.index

use Rattle.std.proofs.Common.{◌≡◌, ◌+◌, sum_by, take}
use Rattle.warc_segment.proofs.series.is_sum.Given as goal

abbrev pub invariant-loop-continuation : goal.invariant-loop-continuation
invariant-loop-continuation l = l.left + sum_by (λ c. c.place.len) (take l.continuation-index l.series) ≡ l.total

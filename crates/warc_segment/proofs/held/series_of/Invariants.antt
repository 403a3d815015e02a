use Rattle.std.proofs.Common.{◌-◌, length}
use Rattle.std.specs.Prelude.{MatchOption}
use Rattle.warc_segment.specs.Held.{side_by_side, AreInSeries, IsNext, IsDone}
use Rattle.warc_segment.proofs.held.series_of.Given as goal

abbrev pub invariant-loop-next : goal.invariant-loop-next
invariant-loop-next g l =
    AreInSeries l.id (side_by_side l.order l.facts) l.series.items
    × MatchOption l.next (IsDone l.id l.order l.series.items) (λ found. IsNext l.id l.order l.series.items found.index)

abbrev pub decreases-loop-next : goal.decreases-loop-next
decreases-loop-next g l = length l.order - length l.series.items

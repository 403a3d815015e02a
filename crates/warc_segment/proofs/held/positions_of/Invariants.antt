use Rattle.std.proofs.Common.{◌≡◌, take}
use Rattle.warc_segment.specs.Held.{positions_of}
use Rattle.warc_segment.proofs.held.positions_of.Given as goal

abbrev pub invariant-loop-continuation : goal.invariant-loop-continuation
invariant-loop-continuation g l = l.positions.items ≡ positions_of (take l.continuation-index l.series)

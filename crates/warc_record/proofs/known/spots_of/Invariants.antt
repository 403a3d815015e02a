use Rattle.std.proofs.Common.{take}
use Rattle.warc_record.specs.Known.{AreSpots}
use Rattle.warc_record.proofs.known.spots_of.Given as goal

-- the spots are those of the fields so far
abbrev pub invariant-loop-place : goal.invariant-loop-place
invariant-loop-place g l = AreSpots (take l.place l.pairs) l.spots

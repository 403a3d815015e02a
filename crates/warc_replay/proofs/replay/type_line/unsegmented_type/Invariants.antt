use Rattle.std.proofs.Common.{◌≡◌, List, Ok, length}
use Rattle.warc_field.specs.Area.{Pair, area_of}
use Rattle.warc_replay.specs.TypeLines.{LeavesType}
use Rattle.warc_replay.proofs.replay.type_line.unsegmented_type.Given as goal

-- what is found so far, and the lines that are left
abbrev pub invariant-loop-rest : goal.invariant-loop-rest
invariant-loop-rest l = (fields : List Pair) → area_of l.area ≡ Ok fields → LeavesType fields l.rest l.found

abbrev pub decreases-loop-rest : goal.decreases-loop-rest
decreases-loop-rest l = length l.rest

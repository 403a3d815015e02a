-- What reading a run of good records finds.
use Rattle.std.specs.Prelude.{◌≡◌, ℕ, ◌+◌, ◌<◌, List, length, take, drop, Option, None, Some, Result, Ok, Err}
use Rattle.warc_frame.specs.declared.fault.Fault.{Fault}
use Rattle.warc_frame.specs.declared.fault.FaultKind.{FaultKind}
use Rattle.warc_frame.specs.declared.fault.FaultKind.TheVariants.{Memory, Read}
use Rattle.warc_pieces.specs.Judging.{IsUnreadAt}
use Rattle.warc_pieces.specs.Pieces.{IsRun, near}

-- a run ended at a fault: a read failed, and these are all good records before its offset; memory ran out for the
-- record after them, of which a byte is there; or it is the fault of what follows them
abbrev pub RunEndsBy : FaultKind → ℕ → List ℕ → ℕ → ℕ → Fault → Type 0
RunEndsBy Read at bytes count len f = (found : Option Fault)
    × IsRun at (drop at (take f.offset (near bytes))) count len found × IsUnreadAt (at + len) bytes f.offset
RunEndsBy Memory at bytes count len f = (f.offset ≡ at + len) × (f.offset < length (near bytes))
    × IsRun at (drop at (take f.offset (near bytes))) count len None
RunEndsBy kind at bytes count len f = IsRun at (drop at (near bytes)) count len (Some f)

-- a run was read from an offset on, to the end of the bytes or to a fault
abbrev pub IsRead : ℕ → List ℕ → ℕ → ℕ → Option Fault → Type 0
IsRead at bytes count len None = IsRun at (drop at (near bytes)) count len None
IsRead at bytes count len (Some f) = RunEndsBy f.kind at bytes count len f

-- how a run ended, as an answer
abbrev pub answer_of : Option Fault → Result (Unit {0}) Fault
answer_of None = Ok tt
answer_of (Some f) = Err f

-- What judging the record at an offset of a source finds.
use Rattle.std.specs.Prelude.{◌≡◌, ℕ, ◌<◌, ◌≤◌, ◌⊎◌, List, [], length, take, drop, Result, Ok, Err}
use Rattle.warc_frame.specs.Faults.{following}
use Rattle.warc_frame.specs.Reading.{fault, record_of}
use Rattle.warc_frame.specs.Record.{Record}
use Rattle.warc_frame.specs.declared.fault.Fault.{Fault}
use Rattle.warc_frame.specs.declared.fault.FaultKind.{FaultKind}
use Rattle.warc_frame.specs.declared.fault.FaultKind.TheVariants.{Memory, Read, Truncated}
use Rattle.warc_record.specs.Heads.{head_fault}
use Rattle.warc_pieces.specs.Pieces.{near}

-- the fault of a text at offset `at`, which begins with no good record
abbrev pub IsFaultAt : ℕ → List ℕ → Fault → Type 0
IsFaultAt at text f = (g : Fault) × (record_of head_fault text ≡ Err g) × (f ≡ following at g)

-- a text has no byte, or ends before the record at its front does
abbrev pub IsTorn : List ℕ → Type 0
IsTorn text = (text ≡ []) ⊎ (record_of head_fault text ≡ Err (fault Truncated (length text)))

-- a read failed at an offset, and what is before it is no more than the beginning of a record
pub record IsUnreadAt (at : ℕ) (bytes : List ℕ) (offset : ℕ) : Type 0 where
  pub after : at ≤ offset
  pub cut : IsTorn (drop at (take offset (near bytes)))

-- why no good record was found at an offset: a read failed; memory ran out for the head there; or none is there
abbrev pub MissesBy : FaultKind → ℕ → List ℕ → Fault → Type 0
MissesBy Read at bytes f = IsUnreadAt at bytes f.offset
MissesBy Memory at bytes f = (f.offset ≡ at) × (at < length (near bytes))
MissesBy kind at bytes f = IsFaultAt at (drop at (near bytes)) f

-- the good record at an offset: its length, or why there is none
abbrev pub FindsRecord : ℕ → List ℕ → Result ℕ Fault → Type 0
FindsRecord at bytes (Ok len) = (r : Record) × (record_of head_fault (drop at (near bytes)) ≡ Ok (r, len))
FindsRecord at bytes (Err f) = MissesBy f.kind at bytes f

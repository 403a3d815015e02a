-- What giving a record again answers, and what it reads of the source. This project's own notion.
use Rattle.std.specs.Prelude.{◌≡◌, ◌↔◌, ℕ, List, length, slice_get, Option, Some, None, IsSome, Result, Ok, Err, IfOk}
use Rattle.warc_frame.specs.Effects.{FailsBy, ReadsOnly}
use Rattle.warc_frame.specs.Record.{Record}
use Rattle.warc_frame.specs.Seen.{IfHeld, SeenSource}
use Rattle.warc_frame.specs.Spelling.{Spells}
use Rattle.warc_frame.specs.declared.fault.OutFault.{OutFault}
use Rattle.warc_frame.specs.declared.fault.OutFault.TheVariants as outs
use Rattle.warc_reading.specs.Archive.{IsArchiveOf}
use Rattle.warc_reading.specs.Row.{Placed, Row}
use Rattle.warc_replay.specs.declared.fault.TakeFault.{TakeFault}
use Rattle.warc_replay.specs.declared.fault.TakeFault.TheVariants.{NoRecord, Read, Memory}
use Rattle.warc_lookup.specs.RecordBytes.{IsInRecord, record_len}

-- the record that is there, and none where there is none; where there is one, a read or an allocation may fail
abbrev pub IsTaken : Option Placed → Result Record TakeFault → Type 0
IsTaken found (Ok r) = (p : Placed) × (found ≡ Some p) × (r ≡ p.content)
IsTaken found (Err NoRecord) = found ≡ None
IsTaken found (Err Read) = IsSome found
IsTaken found (Err Memory) = IsSome found

-- a result of taking a record, as one of an output of which nothing goes out: there a missing record isn't a failure
abbrev pub take_result : {X : Type 0} → Result X TakeFault → Result (Unit {0}) OutFault
take_result (Ok r) = Ok tt
take_result (Err NoRecord) = Ok tt
take_result (Err Read) = Err (outs.Read 0)
take_result (Err Memory) = Err (outs.Memory 0)

-- a text of this length spells the record
abbrev pub IsSpelledIn : ℕ → Record → Type 0
IsSpelledIn len r = (text : List ℕ) × Spells r text × (length text ≡ len)

-- at most one read for each byte of the record, and no other byte
abbrev pub ReadsRecord : Option Row → SeenSource → SeenSource → Type 0
ReadsRecord found old new = ReadsOnly (IsInRecord found) (record_len found) old new

-- Giving the record at a position of an archive of these rows. Where its source holds the archive's bytes it is that of
-- the records that they spell. What any source gives is spelled by a text as long as the row says, and the record alone
-- is read. That there is no record is reported exactly where there is no row
pub record GivesRecord (rows : List Row) (position : ℕ) (old new : SeenSource) (answer : Result Record TakeFault)
    : Type 0 where
  pub taken : IfHeld old.holds (λ bytes. (is : IsArchiveOf bytes rows)
      → IsTaken (slice_get is.are.records position) answer)
  pub whole : IfOk answer (IsSpelledIn (record_len (slice_get rows position)))
  pub absent : (answer ≡ Err NoRecord) ↔ (slice_get rows position ≡ None)
  pub reads : ReadsRecord (slice_get rows position) old new
  pub fails : FailsBy (λ bytes. IsArchiveOf bytes rows) (take_result answer) old new

-- What giving a head again answers, and what it reads of the source. This project's own notion.
use Rattle.std.specs.Prelude.{◌≡◌, ◌↔◌, ℕ, ◌+◌, List, length, slice_get, Option, Some, None, IsSome, Result, Ok, Err}
use Rattle.std.specs.Option.{option_to_list}
use Rattle.warc_frame.specs.Effects.{FailsBy}
use Rattle.warc_frame.specs.Seen.{IfHeld, SeenSource}
use Rattle.warc_frame.specs.declared.front.Head.{Head}
use Rattle.warc_reading.specs.Rereading.{ReadsHeads}
use Rattle.warc_reading.specs.Archive.{IsArchiveOf}
use Rattle.warc_reading.specs.Row.{Placed, Row}
use Rattle.warc_replay.specs.Taking.{take_result}
use Rattle.warc_replay.specs.declared.fault.TakeFault.{TakeFault}
use Rattle.warc_replay.specs.declared.fault.TakeFault.TheVariants.{NoRecord, Read, Memory}

-- a head belongs to the record at a place: its version, its fields in order, its length and its block's
pub record IsHeadAt {A : Type 0} (p : Placed) (h : Head A) : Type 0 where
  pub version : h.version ≡ p.content.version
  pub fields : h.fields ≡ p.content.fields
  pub len : p.offset + h.len ≡ p.block_start
  pub block_len : h.block_len ≡ length p.content.block

-- the head of the record that is there, or that there is none; where there is one, a read or a request for memory may
-- fail
abbrev pub IsHeadTaken : {A : Type 0} → Option Placed → Result (Head A) TakeFault → Type 0
IsHeadTaken found (Ok h) = (p : Placed) × (found ≡ Some p) × IsHeadAt p h
IsHeadTaken found (Err NoRecord) = found ≡ None
IsHeadTaken found (Err Read) = IsSome found
IsHeadTaken found (Err Memory) = IsSome found

-- Giving the head of the record at a position of an archive of these rows. Where its source holds the archive's bytes
-- it is that of the records that they spell. Of any source the head alone is read. That there is no record is reported
-- exactly where there is no row, and then nothing is read
pub record GivesHead {A : Type 0} (rows : List Row) (position : ℕ) (old new : SeenSource)
    (answer : Result (Head A) TakeFault) : Type 0 where
  pub taken : IfHeld old.holds (λ bytes. (is : IsArchiveOf bytes rows)
      → IsHeadTaken (slice_get is.are.records position) answer)
  pub absent : (answer ≡ Err NoRecord) ↔ (slice_get rows position ≡ None)
  pub reads : ReadsHeads (option_to_list (slice_get rows position)) old new
  pub fails : FailsBy (λ bytes. IsArchiveOf bytes rows) (take_result answer) old new

-- What giving a part of a record writes: its head or its block, as the archive has it; and what it reads for that.
use Rattle.std.specs.Prelude.{◌≡◌, ◌↔◌, ℕ, ◌+◌, ◌-◌, ◌<◌, ◌≤◌, List, length, slice_get, slice_range, Option, Some, None, option_map, Result, Ok, Err, IfErr}
use Rattle.std.specs.Io.KnownBytes.{append_known}
use Rattle.warc_frame.specs.Effects.{FailsBy, IsOfDevice, ReadsOnly}
use Rattle.warc_frame.specs.Failing.{failed_by}
use Rattle.warc_frame.specs.Seen.{IfHeld, Seen, SeenSource}
use Rattle.warc_frame.specs.Send.{WentOut}
use Rattle.warc_frame.specs.declared.fault.OutFault.{OutFault}
use Rattle.warc_frame.specs.declared.fault.OutFault.TheVariants as outs
use Rattle.warc_reading.specs.Archive.{IsArchiveOf}
use Rattle.warc_reading.specs.Row.{Placed, Row}
use Rattle.warc_replay.specs.declared.fault.ExtractFault.{ExtractFault}
use Rattle.warc_replay.specs.declared.fault.ExtractFault.TheVariants.{NoRecord, Out}
use Rattle.warc_replay.specs.declared.record.part.Part.{Part}
use Rattle.warc_replay.specs.declared.record.part.Part.TheVariants.{Head, Block}

-- a part of a record of an archive of these bytes: what is from its first byte to its block, or its block
abbrev pub part_text : Part → List ℕ → Placed → List ℕ
part_text Head bytes p = slice_range bytes p.offset p.block_start
part_text Block bytes p = p.content.block

-- where the part of a row's record begins, and how many bytes it has
abbrev pub part_start : Part → Row → ℕ
part_start Head row = row.offset
part_start Block row = row.block_start

abbrev pub part_len : Part → Row → ℕ
part_len Head row = row.block_start - row.offset
part_len Block row = row.block_len

-- a front of the text went out before a failed read or write
abbrev pub IsGivenCut : Option (List ℕ) → OutFault → Option (List ℕ) → Option (List ℕ) → Type 0
IsGivenCut found (outs.Read n) old new = (text : List ℕ) × (found ≡ Some text) × WentOut old text new n
IsGivenCut found (outs.Write n) old new = (text : List ℕ) × (found ≡ Some text) × WentOut old text new n
IsGivenCut found (outs.Memory n) old new = ⊥

-- the text went out and its length is answered, and no byte went out where there is none
abbrev pub IsGiven : Option (List ℕ) → Result ℕ ExtractFault → Option (List ℕ) → Option (List ℕ) → Type 0
IsGiven found (Ok n) old new =
    (text : List ℕ) × (found ≡ Some text) × (n ≡ length text) × (new ≡ append_known old text)
IsGiven found (Err NoRecord) old new = (found ≡ None) × (new ≡ old)
IsGiven found (Err (Out e)) old new = IsGivenCut found e old new

-- a result of giving a part, as one of an output: there a missing record isn't a failure
abbrev pub extract_result : Result ℕ ExtractFault → Result (Unit {0}) OutFault
extract_result (Ok n) = Ok tt
extract_result (Err NoRecord) = Ok tt
extract_result (Err (Out e)) = Err e

-- the offset of a byte of the part of a row's record, and how many bytes that has
abbrev pub IsInPart : Part → Option Row → ℕ → Type 0
IsInPart part None at = ⊥
IsInPart part (Some row) at = (part_start part row ≤ at) × (at < part_start part row + part_len part row)

abbrev pub found_len : Part → Option Row → ℕ
found_len part None = 0
found_len part (Some row) = part_len part row

-- at most one read for each byte of the part, and no other byte
abbrev pub ReadsPart : Part → Option Row → SeenSource → SeenSource → Type 0
ReadsPart part found old new = ReadsOnly (IsInPart part found) (found_len part found) old new

-- Giving a part of the record at a position of an archive of these rows. Where its source holds the archive's bytes,
-- that part goes out. Of any source that part alone is read; where there is no record nothing goes out. A failed read
-- or write is the only fault
pub record GivesPart (part : Part) (rows : List Row) (position : ℕ) (old new : SeenSource) (before after : Seen)
    (answer : Result ℕ ExtractFault) : Type 0 where
  pub reported : IfHeld old.holds (λ bytes. (is : IsArchiveOf bytes rows)
      → IsGiven (option_map (λ p. part_text part bytes p) (slice_get is.are.records position)) answer before.reports
      after.reports)
  pub silent : answer ≡ Err NoRecord → after.reports ≡ before.reports
  pub absent : (answer ≡ Err NoRecord) ↔ (slice_get rows position ≡ None)
  pub reads : ReadsPart part (slice_get rows position) old new
  pub device : IfErr (extract_result answer) IsOfDevice
  pub fails : FailsBy (λ bytes. IsArchiveOf bytes rows) (extract_result answer) old new
  pub cause : after.faults ≡ failed_by (extract_result answer) before.faults

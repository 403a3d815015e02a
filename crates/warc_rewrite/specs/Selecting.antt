-- Some records of an archive, written byte for byte. This project's own notion.
use Rattle.std.specs.Prelude.{◌↔◌, ℕ, ◌+◌, ◌<◌, List, slice_get, slice_range, Some, All, Contains, Result, IfErr}
use Rattle.std.specs.List.{filter_map, flat_map, sum_by}
use Rattle.std.specs.List.Sorted.{IsStrictlyIncreasing}
use Rattle.warc_frame.specs.Effects.{IsOfDevice, IsTakenFrom, ReadsOnly, Sends}
use Rattle.warc_frame.specs.Seen.{Seen, SeenSource}
use Rattle.warc_frame.specs.declared.fault.OutFault.{OutFault}
use Rattle.warc_reading.specs.Archive.{IsArchiveOf}
use Rattle.warc_reading.specs.Row.{Row}
use Rattle.warc_lookup.specs.RecordBytes.{IsInRecord, record_len}

-- positions of some of a number of records, in their order, each once
pub record ArePositions (count : ℕ) (positions : List ℕ) : Type 0 where
  pub ascending : IsStrictlyIncreasing positions
  pub below : All (λ p. p < count) positions

-- the positions of all other records
pub record AreOthers (count : ℕ) (positions others : List ℕ) : Type 0 where
  pub are : ArePositions count others
  pub each : (p : ℕ) → Contains others p ↔ ((p < count) × ¬ Contains positions p)

-- what is at positions of a list, in the order of the positions
abbrev pub at_positions : {X : Type 0} → List X → List ℕ → List X
at_positions xs positions = filter_map (slice_get xs) positions

-- the bytes of a row's record, the two line ends after its block included
abbrev pub record_bytes : List ℕ → Row → List ℕ
record_bytes bytes row = slice_range bytes row.offset (row.block_start + row.block_len + 4)

-- the bytes of the records at positions, one after another
abbrev pub selected_text : List Row → List ℕ → List ℕ → List ℕ
selected_text rows positions bytes = flat_map (record_bytes bytes) (at_positions rows positions)

-- the text is this, of an archive of these rows
abbrev pub IsSelection : List Row → List ℕ → List ℕ → List ℕ → Type 0
IsSelection rows positions = IsTakenFrom (selected_text rows positions) (λ bytes. IsArchiveOf bytes rows)

-- the offset of a byte of one of the records of these rows
pub record IsInAnyRecord (rows : List Row) (at : ℕ) : Type 0 where
  pub row : Row
  pub is : Contains rows row
  pub inside : IsInRecord (Some row) at

-- how many bytes these records have
abbrev pub records_len : List Row → ℕ
records_len rows = sum_by (λ row. record_len (Some row)) rows

-- at most one read for each byte of these records, and no other byte
abbrev pub ReadsRecords : List Row → SeenSource → SeenSource → Type 0
ReadsRecords rows old new = ReadsOnly (IsInAnyRecord rows) (records_len rows) old new

-- Writing the records at positions of an archive of these rows: their bytes go out, or a front of them, and these alone
-- are read. A failed read or write is the only fault
pub record Selects (rows : List Row) (positions : List ℕ) (old new : SeenSource) (before after : Seen)
    (answer : Result (Unit {0}) OutFault) : Type 0 where
  pub sends : Sends (IsSelection rows positions) old new before after answer
  pub reads : ReadsRecords (at_positions rows positions) old new
  pub device : IfErr answer IsOfDevice

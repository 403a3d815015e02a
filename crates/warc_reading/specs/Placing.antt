-- Where a record is among the bytes of an archive, and which bytes are those of rows' records. This project's own
-- notion.
use Rattle.std.specs.Prelude.{◌≡◌, ℕ, ◌+◌, ◌<◌, ◌≤◌, List, length, take, drop, slice_get, Some}
use Rattle.warc_frame.specs.Record.{max_archive}
use Rattle.warc_frame.specs.Spelling.{Spells}
use Rattle.warc_reading.specs.Row.{Placed, Row}

-- the bytes have at its offset a text of this length, which spells the record and in which its block begins where the
-- place says
pub record IsPlacedIn (bytes : List ℕ) (p : Placed) : Type 0 where
  pub len : ℕ
  pub order : p.offset ≤ p.block_start
  pub end : p.offset + len ≡ p.block_start + length p.content.block + 4
  pub within : p.offset + len ≤ length bytes
  pub spells : Spells p.content (take len (drop p.offset bytes))
  pub block : take (length p.content.block) (drop p.block_start bytes) ≡ p.content.block

-- each of the records is in the bytes of an archive
pub record ArePlacedIn (bytes : List ℕ) (records : List Placed) : Type 0 where
  pub short : length bytes ≤ max_archive
  pub each : (i : ℕ) (p : Placed) → slice_get records i ≡ Some p → IsPlacedIn bytes p

-- the offset of a byte of the head or of the block of a row's record
abbrev pub IsInRow : Row → ℕ → Type 0
IsInRow row at = (row.offset ≤ at) × (at < row.block_start + row.block_len)

-- the offset of a byte of the head or of the block of the record of one of these rows
pub record IsInAnyRow (rows : List Row) (at : ℕ) : Type 0 where
  pub place : ℕ
  pub row : Row
  pub is : slice_get rows place ≡ Some row
  pub inside : IsInRow row at

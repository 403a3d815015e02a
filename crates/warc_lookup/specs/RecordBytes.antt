-- The bytes of a row's record.
use Rattle.std.specs.Prelude.{ℕ, ◌+◌, ◌-◌, ◌<◌, ◌≤◌, Option, Some, None}
use Rattle.warc_reading.specs.Row.{Row}

-- the offset of a byte of the record of a row, the two line ends after its block included
abbrev pub IsInRecord : Option Row → ℕ → Type 0
IsInRecord None at = ⊥
IsInRecord (Some row) at = (row.offset ≤ at) × (at < row.block_start + row.block_len + 4)

-- how many bytes it has
abbrev pub record_len : Option Row → ℕ
record_len None = 0
record_len (Some row) = row.block_start + row.block_len + 4 - row.offset

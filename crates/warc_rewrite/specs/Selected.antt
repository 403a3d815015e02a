-- The bytes of records that are written. States of the code: no public clause cites them.
use Rattle.std.specs.Prelude.{◌≡◌, ℕ, List, Some}
use Rattle.std.specs.List.{AllByRecursion, flat_map}
use Rattle.warc_frame.specs.Effects.{HasRange}
use Rattle.warc_reading.specs.Row.{Row}
use Rattle.warc_rewrite.specs.Selecting.{record_bytes}
use Rattle.warc_lookup.specs.RecordBytes.{record_len}

-- the bytes have the whole record of a row, the two line ends after its block included
abbrev pub HasBytesOf : List ℕ → Row → Type 0
HasBytesOf bytes row = HasRange row.offset (record_len (Some row)) bytes

-- the bytes of the records of these rows, one after another, where all of them are there
pub record AreBytesOf (rows : List Row) (bytes text : List ℕ) : Type 0 where
  pub within : AllByRecursion (HasBytesOf bytes) rows
  pub is : text ≡ flat_map (record_bytes bytes) rows

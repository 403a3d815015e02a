-- How far bytes can be read that are refused. This project's own notion.
use Rattle.std.specs.Prelude.{◌≡◌, ◌⊎◌, ℕ, ◌-◌, ◌+◌, List, length, slice_get, Option, Some, None, IfSome}
use Rattle.warc_frame.specs.Count.{capped}
use Rattle.warc_frame.specs.declared.fault.Fault.{Fault}
use Rattle.warc_frame.specs.declared.fault.FaultKind.TheVariants.{Memory}
use Rattle.warc_reading.specs.Archive.{IsFaultOf}
use Rattle.warc_reading.specs.Row.{Row}
use Rattle.warc.specs.Front.{AreRowsOfFront}

-- where a record ends, after its block and CRLF CRLF
abbrev pub row_end : Option Row → ℕ
row_end (Some row) = capped (capped (row.block_start + row.block_len) + 4)
row_end None = 0

-- where the last record ends
abbrev pub rows_end : List Row → ℕ
rows_end rows = row_end (slice_get rows (length rows - 1))

-- the good records that bytes begin with, as many as there are before a fault, have this many bytes; the fault is the
-- first one of the bytes, unless memory ran out
pub record IsGoodFront (bytes : List ℕ) (end : ℕ) (fault : Option Fault) : Type 0 where
  pub rows : List Row
  pub are : AreRowsOfFront bytes fault rows
  pub end_is : end ≡ rows_end rows
  pub refused : IfSome fault (λ f. (f.kind ≡ Memory) ⊎ IsFaultOf bytes f)

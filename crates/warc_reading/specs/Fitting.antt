-- Which rows fit the entries of 32 bytes in which they are kept: the rows of any archive. This project's own notion.
use Rattle.std.specs.Prelude.{ℕ, ◌+◌, ◌^◌, ◌<◌, ◌≤◌, List, ◌∷◌, ◌++◌, length}
use Rattle.std.specs.List.{sum_by}
use Rattle.warc_frame.specs.Record.{max_archive}
use Rattle.warc_reading.specs.Archive.{IsArchiveOf}
use Rattle.warc_reading.specs.Row.{Row, texts_len}

-- a row fits, whose texts begin at a place among those of all: its offset, its block's length and that place are below
-- 2^48, its head's length below 2^32, and each text's length below 2^16
pub record Fits (start : ℕ) (row : Row) : Type 0 where
  pub order : row.offset ≤ row.block_start
  pub head : row.block_start < row.offset + 2 ^ 32
  pub offset : row.offset < max_archive
  pub block : row.block_len < max_archive
  pub begin : start < max_archive
  pub kind : length row.kind < 2 ^ 16
  pub date : length row.date < 2 ^ 16
  pub id : length row.id < 2 ^ 16
  pub target : length row.target < 2 ^ 16

-- each row of an archive fits after the texts of those before it
abbrev pub RowsFit : Type 0
RowsFit = (bytes : List ℕ) (rows more : List Row) (row : Row) → IsArchiveOf bytes (rows ++ row ∷ more)
    → Fits (sum_by texts_len rows) row

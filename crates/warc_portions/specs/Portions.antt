-- Portions of what is written of an archive, and where they are among its bytes. This project's own notion.
use Rattle.std.specs.Prelude.{◌≡◌, ℕ, List, ◌++◌, take, drop}
use Rattle.warc_field.specs.Lines.{crlf}
use Rattle.warc_frame.specs.Effects.{HasRange}
use Rattle.warc_reading.specs.Row.{Placed, Row, row_of}
use Rattle.warc_rewrite.specs.Copied.{HasWhole}
use Rattle.warc_rewrite.specs.Selecting.{record_bytes}
use Rattle.warc_portions.specs.declared.portion.Portion.{Portion}

-- the record is among the bytes, where its row says
pub record IsInPlace (bytes : List ℕ) (row : Row) (p : Placed) : Type 0 where
  pub whole : HasWhole bytes p
  pub row_is : row ≡ row_of p

-- the text is the portion's head, its block, which the bytes have, and what closes a record
pub record IsPortionOf {A : Type 0} (portion : Portion A) (bytes text : List ℕ) : Type 0 where
  pub range : HasRange portion.block_start portion.block_len bytes
  pub is : text ≡ portion.head.items ++ take portion.block_len (drop portion.block_start bytes) ++ crlf ++ crlf

-- the bytes of a row's record are there
pub record IsRecordPlace (bytes : List ℕ) (row : Row) (offset len : ℕ) : Type 0 where
  pub range : HasRange offset len bytes
  pub is : take len (drop offset bytes) ≡ record_bytes bytes row

-- The texts of records whose blocks are copied from a source. States of the code.
use Rattle.std.specs.Prelude.{◌≡◌, ℕ, ◌*◌, List, ◌++◌, length, map, take, drop}
use Rattle.std.specs.List.{AllByRecursion, flat_map}
use Rattle.warc_field.specs.Area.{canonical_fields}
use Rattle.warc_field.specs.Lines.{crlf}
use Rattle.warc_frame.specs.Effects.{HasRange}
use Rattle.warc_frame.specs.Record.{Record, head_text}
use Rattle.warc_frame.specs.declared.front.Head.{Head}
use Rattle.warc_reading.specs.Archive.{contents}
use Rattle.warc_reading.specs.Rereading.{HasHead, IsHeadReadOf, IsHeadText}
use Rattle.warc_rewrite.specs.Forms.{read_len, split_len, split_text, text_as}
use Rattle.warc_reading.specs.Row.{Placed, Row, row_of}
use Rattle.warc_rewrite.specs.declared.forms.Copied.{Copied}
use Rattle.warc_rewrite.specs.declared.output.Replacement.{Replacement}
use Rattle.warc_rewrite.specs.declared.output.Replacement.TheVariants.{As, Split}

-- the text of a record whose block is copied, where the bytes have the block
pub record IsCopy {A : Type 0} (c : Copied A) (bytes text : List ℕ) : Type 0 where
  pub range : HasRange c.block_start c.block_len bytes
  pub is : text ≡ head_text c.version (canonical_fields c.fields) ++ take c.block_len (drop c.block_start bytes)
      ++ crlf ++ crlf

-- a block that the bytes have, and what closes its record
abbrev pub IsClosedBlock : ℕ → ℕ → List ℕ → List ℕ → Type 0
IsClosedBlock start len bytes text =
    HasRange start len bytes × (text ≡ take len (drop start bytes) ++ (crlf ++ crlf))

-- the text of a row's record whose head is this text, where the bytes have the block
abbrev pub IsSameText : List ℕ → Row → List ℕ → List ℕ → Type 0
IsSameText head row bytes text = (rest : List ℕ) × IsClosedBlock row.block_start row.block_len bytes rest
    × (text ≡ head ++ rest)

-- what is written of a record is this copy
pub record IsCopiedOf {A : Type 0} (text_of : Record → List ℕ) (p : Placed) (c : Copied A) : Type 0 where
  pub start : c.block_start ≡ p.block_start
  pub len : c.block_len ≡ length p.content.block
  pub text : head_text c.version (canonical_fields c.fields) ++ p.content.block ++ crlf ++ crlf ≡ text_of p.content

-- the record is among the bytes where its place says, its head and its block
pub record HasWhole (bytes : List ℕ) (p : Placed) : Type 0 where
  pub head : HasHead bytes p
  pub range : HasRange p.block_start (length p.content.block) bytes
  pub block : take (length p.content.block) (drop p.block_start bytes) ≡ p.content.block

-- what is written of a row's record, where the bytes have the record
pub record IsTextOf (text_of : Record → List ℕ) (row : Row) (bytes text : List ℕ) : Type 0 where
  pub placed : Placed
  pub whole : HasWhole bytes placed
  pub row_is : row ≡ row_of placed
  pub is : text ≡ text_of placed.content

-- what is written of the rows' records, one after another, where the bytes have these
pub record AreTextsOf (text_of : Record → List ℕ) (rows : List Row) (bytes text : List ℕ) : Type 0 where
  pub records : List Placed
  pub whole : AllByRecursion (HasWhole bytes) records
  pub rows_are : rows ≡ map row_of records
  pub is : text ≡ flat_map text_of (contents records)

-- what is written of a row's record, whose head this is
abbrev pub IsTextWith : {A : Type 0} → (Record → List ℕ) → Row → Head A → List ℕ → List ℕ → Type 0
IsTextWith text_of row head bytes text = (is : IsTextOf text_of row bytes text) × IsHeadReadOf is.placed.content head

-- what is written of a row's record, the text of whose head is this
abbrev pub IsTextAfter : (Record → List ℕ) → Row → List ℕ → List ℕ → List ℕ → Type 0
IsTextAfter text_of row head bytes text =
    (is : IsTextOf text_of row bytes text) × IsHeadText is.placed.content row head

-- what replaces a record, and how many bytes are read for it
abbrev pub text_by : Replacement → Record → List ℕ
text_by (As form) = text_as form
text_by (Split size) = split_text size

abbrev pub len_by : Replacement → Row → ℕ
len_by (As form) = read_len form
len_by (Split size) = split_len

-- how many bytes of its block are read
abbrev pub block_by : Replacement → Row → ℕ
block_by (As form) row = row.block_len
block_by (Split size) row = 3 * row.block_len

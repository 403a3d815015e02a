-- A listing of an archive as one value, and what it says of the bytes of its source.
use Rattle.std.specs.Prelude.{◌≡◌, ℕ, ◌+◌, ◌≤◌, List, [], ◌∷◌, ◌++◌, length, map}
use Rattle.std.specs.List.{AllByRecursion}
use Rattle.warc_frame.specs.Faults.{IsFirstFault}
use Rattle.warc_frame.specs.Record.{Record, max_archive}
use Rattle.warc_frame.specs.Spelling.{Spells, SpellsAll}
use Rattle.warc_frame.specs.declared.fault.Fault.{Fault}
use Rattle.warc_record.specs.Good.{IsGood}
use Rattle.warc_record.specs.Heads.{head_fault}
use Rattle.warc_reading.specs.Row.{Placed, Row, row_of}

-- its source, and a row for each record
pub record Contents (S : Type 0) : Type 0 where
  pub source : S
  pub rows : List Row

-- a text that begins at offset q is a concatenation of texts that spell the records in order, each with its
-- block where it says
abbrev pub SpellsFrom : ℕ → List Placed → List ℕ → Type 0
SpellsFrom q [] text = text ≡ []
SpellsFrom q (p ∷ ps) text = (front rest : List ℕ) × Spells p.content front × (p.offset ≡ q)
    × (p.block_start + length p.content.block + 4 ≡ q + length front) × (text ≡ front ++ rest)
    × SpellsFrom (q + length front) ps rest

abbrev pub contents : List Placed → List Record
contents ps = map (λ p. p.content) ps

-- each of the records is good
abbrev pub AreGood : List Record → Type 0
AreGood records = AllByRecursion IsGood records

-- the bytes spell good records, and these are their rows
pub record AreRowsOf (bytes : List ℕ) (rows : List Row) : Type 0 where
  pub records : List Placed
  pub spelled : SpellsFrom 0 records bytes
  pub good : AreGood (contents records)
  pub rows_are : rows ≡ map row_of records

-- the rows are those of an archive of these bytes, which are no more than an archive may have
pub record IsArchiveOf (bytes : List ℕ) (rows : List Row) : Type 0 where
  pub short : length bytes ≤ max_archive
  pub are : AreRowsOf bytes rows

-- a record ends here, or the bytes begin; all records before it are good
pub record IsRecordEnd (bytes : List ℕ) (offset : ℕ) : Type 0 where
  pub records : List Record
  pub front : List ℕ
  pub rest : List ℕ
  pub bytes_are : bytes ≡ front ++ rest
  pub spelled : SpellsAll records front
  pub good : AreGood records
  pub offset_is : offset ≡ length front

-- the first fault of bytes: the fault after the longest list of good records with which they begin
abbrev pub IsFaultOf : List ℕ → Fault → Type 0
IsFaultOf bytes f = IsFirstFault head_fault 0 bytes f

-- Where the text of a record is among the bytes of an archive. States of the code: no public clause cites them.
use Rattle.std.specs.Prelude.{◌≡◌, ℕ, ◌+◌, ◌≤◌, List, length, take, drop, Result, Ok, ⊤}
use Rattle.warc_frame.specs.Record.{Record, max_archive}
use Rattle.warc_frame.specs.Spelling.{Spells}
use Rattle.warc_answer.specs.Laws.{EndsInside}
use Rattle.warc_answer.specs.declared.answer.Path.{Path}
use Rattle.warc_index.specs.Orders.{Indexes}
use Rattle.warc_index.specs.declared.unfound.Unfound.{Unfound}
use Rattle.warc_segment.specs.Kept.{Kept as Parts}
use Rattle.warc_reading.specs.Archive.{IsArchiveOf, contents}
use Rattle.warc_lookup.specs.Indexed.{AreOf}
use Rattle.warc_reading.specs.Placing.{IsPlacedIn}
use Rattle.warc_reading.specs.Row.{Placed, Row, row_of}
use Rattle.warc_replay.specs.declared.fault.TakeFault.{TakeFault}
use Rattle.warc_replay.specs.declared.fault.TakeFault.TheVariants.{NoRecord, Read, Memory}

-- the record of a row is among the bytes of an archive
pub record HasRecordOf (row : Row) (bytes : List ℕ) : Type 0 where
  pub placed : Placed
  pub short : length bytes ≤ max_archive
  pub written : IsPlacedIn bytes placed
  pub row_is : row ≡ row_of placed

-- the bytes have a record that fills `len` of them from an offset on
pub record HasRecordAt (at len : ℕ) (bytes : List ℕ) : Type 0 where
  pub content : Record
  pub spells : Spells content (take len (drop at bytes))
  pub within : at + len ≤ length bytes

-- a record that is there isn't given
abbrev pub IsUntaken : TakeFault → Type 0
IsUntaken NoRecord = ⊥
IsUntaken Read = ⊤
IsUntaken Memory = ⊤

-- the records of an archive of these rows have this path in this way, and the way ends at one of them
pub record LeadsTo (way : List Record → Result Path Unfound) (path : Path) (rows : List Row) (index : Indexes)
    (parts : Parts) : Type 0 where
  pub is : (bytes : List ℕ) (is : IsArchiveOf bytes rows) → AreOf is.are.records index parts
      → way (contents is.are.records) ≡ Ok path
  pub ends : (bytes : List ℕ) (is : IsArchiveOf bytes rows) → AreOf is.are.records index parts
      → EndsInside (contents is.are.records) (way (contents is.are.records))

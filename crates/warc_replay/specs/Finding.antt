-- What is found at a position before the source is read. States of the code: no public clause cites them.
use Rattle.std.specs.Prelude.{◌≡◌, ℕ, List, map, slice_get, Some, None, IsTrue, IsFalse}
use Rattle.warc_record.specs.Kinds.{kind_named}
use Rattle.warc_index.specs.Captures.{is_capture}
use Rattle.warc_index.specs.Orders.{Indexes}
use Rattle.warc_segment.specs.Kept.{Kept as Parts}
use Rattle.warc_answer.specs.Answers.{path_from}
use Rattle.warc_lookup.specs.Indexed.{AreOf, indexed_record}
use Rattle.warc_reading.specs.Row.{Placed, Row}
use Rattle.warc_replay.specs.declared.replay.body.Found.{Found}
use Rattle.warc_replay.specs.declared.replay.body.Found.TheVariants.{NoRecord, NoCapture, Capture}

-- a row of a capture is at the position
pub record IsCaptureRow (rows : List Row) (position : ℕ) : Type 0 where
  pub row : Row
  pub there : slice_get rows position ≡ Some row
  pub capture : IsTrue (is_capture (kind_named row.kind))

-- a row of another record is there
pub record IsOtherRow (rows : List Row) (position : ℕ) : Type 0 where
  pub row : Row
  pub there : slice_get rows position ≡ Some row
  pub other : IsFalse (is_capture (kind_named row.kind))

-- what is found there: of a capture the path to its origin
abbrev pub IsFoundAt : List Row → Indexes → Parts → ℕ → Found → Type 0
IsFoundAt rows index parts position NoRecord = slice_get rows position ≡ None
IsFoundAt rows index parts position NoCapture = IsOtherRow rows position
IsFoundAt rows index parts position (Capture path) =
    IsCaptureRow rows position
    × ((records : List Placed) → AreOf records index parts → path ≡ path_from (map indexed_record records) position)

-- Which records are marked as needed, by position. States of the code: no public clause cites them.
use Rattle.std.specs.Prelude.{◌≡◌, ◌⊎◌, ◌↔◌, ℕ, ◌<◌, Bool, true, false, List, [], ◌∷◌, length, map, Contains, slice_get, slice_index_or, Option, Some, Result, IfOk, OnOk}
use Rattle.warc_field.specs.Area.{Pair}
use Rattle.warc_frame.specs.Effects.{FailsBy}
use Rattle.warc_frame.specs.Seen.{IfHeld, SeenSource}
use Rattle.warc_frame.specs.Send.{early_result}
use Rattle.warc_frame.specs.declared.fault.EarlyFault.{EarlyFault}
use Rattle.warc_record.specs.Readings.{Reading, reading_of}
use Rattle.warc_record.specs.declared.readings.SegmentNumber.TheVariants.{Number}
use Rattle.warc_index.specs.Walks.{walk}
use Rattle.warc_segment.specs.Joined.{piece_placed}
use Rattle.warc_segment.specs.Kept.{Kept as Parts}
use Rattle.warc_segment.specs.Series.{IsMemberAt, Piece, series_of}
use Rattle.warc_reading.specs.Archive.{IsArchiveOf}
use Rattle.warc_lookup.specs.Indexed.{placed_record, ArePartsOf}
use Rattle.warc_reading.specs.Rereading.{ReadsHeads}
use Rattle.warc_reading.specs.Row.{Placed, Row}
use Rattle.warc_rewrite.specs.Selecting.{ArePositions}
use Rattle.warc_rewrite.specs.declared.needs.Mark.{Mark}
use Rattle.warc_rewrite.specs.declared.needs.Mark.TheVariants.{Free, Needed, Segment}

-- the mark of a position; one beyond the table is free
abbrev pub mark_in : List Mark → ℕ → Mark
mark_in marks q = slice_index_or marks q Free

abbrev pub marks_needed : Mark → Bool
marks_needed Free = false
marks_needed Needed = true
marks_needed Segment = true

abbrev pub is_free : Mark → Bool
is_free Free = true
is_free Needed = false
is_free Segment = false

abbrev pub IsMarked : List Mark → ℕ → Type 0
IsMarked marks q = marks_needed (mark_in marks q) ≡ true

-- a way from one of the positions comes to q
pub record IsReached (next : ℕ → Option ℕ) (positions : List ℕ) (q : ℕ) : Type 0 where
  pub by : ℕ
  pub named : Contains positions by
  pub steps : ℕ
  pub way : walk next by steps ≡ Some q

-- what the ways from positions come to is marked, and nothing else
pub record AreMarked (next : ℕ → Option ℕ) (positions : List ℕ) (marks : List Mark) : Type 0 where
  pub named : (p : ℕ) → Contains positions p → IsMarked marks p
  pub reached : (q : ℕ) → IsMarked marks q → IsReached next positions q
  pub closed : (q r : ℕ) → IsMarked marks q → next q ≡ Some r → IsMarked marks r

-- what the ways from positions come to is marked, but for the place that the last way has come to, and nothing else
pub record AreMarkedBut (next : ℕ → Option ℕ) (positions : List ℕ) (at : ℕ) (marks : List Mark) : Type 0 where
  pub named : (p : ℕ) → Contains positions p → IsMarked marks p ⊎ (p ≡ at)
  pub reached : (q : ℕ) → IsMarked marks q → IsReached next positions q
  pub closed : (q r : ℕ) → IsMarked marks q → next q ≡ Some r → IsMarked marks r ⊎ (r ≡ at)
  pub here : IsReached next positions at
  pub inside : at < length marks

-- ---- the segments

-- where a segment is marked as one of a series, its whole series is marked
abbrev pub AreTaken : List Piece → List Mark → Type 0
AreTaken pieces marks = (s q : ℕ) (id : Option (List ℕ)) → mark_in marks s ≡ Segment
    → IsMemberAt (series_of id pieces) s → IsMemberAt (series_of id pieces) q → IsMarked marks q

-- a head says that its record is the first segment, and the record at q is a member of its series
abbrev pub IsSegmentBy : List Piece → Reading → ℕ → Type 0
IsSegmentBy pieces head q = (head.segment.number ≡ Number 1) × IsMemberAt (series_of head.id pieces) q

-- the series of a record with this head is marked as well
pub record TakesSeries (pieces : List Piece) (head : Reading) (old new : List Mark) : Type 0 where
  pub kept : (q : ℕ) → IsMarked old q → IsMarked new q
  pub all : (q : ℕ) → IsSegmentBy pieces head q → IsMarked new q
  pub only : (q : ℕ) → IsMarked new q → IsMarked old q ⊎ IsSegmentBy pieces head q
  pub taken : AreTaken pieces new

-- positions are marked as segments, and no others
pub record MarksSegments (segments : List ℕ) (old new : List Mark) : Type 0 where
  pub same : length new ≡ length old
  pub each : (q : ℕ) → (mark_in new q ≡ mark_in old q) ⊎ ((mark_in new q ≡ Segment) × Contains segments q)
  pub all : (q : ℕ) → Contains segments q → q < length old → mark_in new q ≡ Segment

-- ---- over the records of an archive

-- what joins the records of an archive
abbrev pub pieces_of : List Placed → List Piece
pieces_of records = map piece_placed (map placed_record records)

-- the record at p is a first segment, and the one at q a member of its series
pub record IsSegmentAt (records : List Placed) (p q : ℕ) : Type 0 where
  pub first : Placed
  pub there : slice_get records p ≡ Some first
  pub is : IsSegmentBy (pieces_of records) (reading_of first.content.fields) q

-- the fields of the record at a position, read again; of the source its head alone is read
pub record SaysAgain (rows : List Row) (position : ℕ) (old new : SeenSource)
    (answer : Result (List Pair) EarlyFault) : Type 0 where
  pub reported : IfHeld old.holds (λ bytes. (is : IsArchiveOf bytes rows) (p : Placed)
      → slice_get is.are.records position ≡ Some p → IfOk answer (λ head. head ≡ p.content.fields))
  pub reads : (row : Row) → slice_get rows position ≡ Some row → ReadsHeads (row ∷ []) old new
  pub fails : FailsBy (λ bytes. IsArchiveOf bytes rows) (early_result answer) old new

-- of the first n records that are marked at the beginning, the segments are marked as well, and nothing else
pub record AreTakenOf (records : List Placed) (n : ℕ) (base marks : List Mark) : Type 0 where
  pub kept : (q : ℕ) → IsMarked base q → IsMarked marks q
  pub only : (q : ℕ) → IsMarked marks q
      → IsMarked base q ⊎ ((p : ℕ) × IsMarked base p × IsSegmentAt records p q)
  pub done : (p q : ℕ) → p < n → IsMarked base p → IsSegmentAt records p q → IsMarked marks q
  pub taken : AreTaken (pieces_of records) marks

-- no position is marked as that of a segment
abbrev pub HasNoSegment : List Mark → Type 0
HasNoSegment marks = (q : ℕ) → mark_in marks q ≡ Segment → ⊥

-- the series of the record at a position is marked, where the source holds the archive's bytes
pub record TakesOne (rows : List Row) (parts : Parts) (position : ℕ) (marks left : List Mark) (old new : SeenSource)
    (answer : Result (Unit {0}) EarlyFault) : Type 0 where
  pub reported : IfHeld old.holds (λ bytes. (is : IsArchiveOf bytes rows) (p : Placed)
      → slice_get is.are.records position ≡ Some p → ArePartsOf is.are.records parts
      → AreTaken (pieces_of is.are.records) marks
      → OnOk answer (TakesSeries (pieces_of is.are.records) (reading_of p.content.fields) marks left))
  pub reads : (row : Row) → slice_get rows position ≡ Some row → ReadsHeads (row ∷ []) old new
  pub fails : FailsBy (λ bytes. IsArchiveOf bytes rows) (early_result answer) old new

-- the segments of all marked records are marked; each head is read at most once, and nothing else
pub record TakesAll (rows : List Row) (parts : Parts) (marks left : List Mark) (old new : SeenSource)
    (answer : Result (Unit {0}) EarlyFault) : Type 0 where
  pub reported : IfHeld old.holds (λ bytes. (is : IsArchiveOf bytes rows) → ArePartsOf is.are.records parts
      → HasNoSegment marks → OnOk answer (AreTakenOf is.are.records (length rows) marks left))
  pub reads : ReadsHeads rows old new
  pub fails : FailsBy (λ bytes. IsArchiveOf bytes rows) (early_result answer) old new

-- the positions below a count that pass a test
pub record AreWhere (test : ℕ → Bool) (count : ℕ) (positions : List ℕ) : Type 0 where
  pub are : ArePositions count positions
  pub each : (p : ℕ) → Contains positions p ↔ ((p < count) × (test p ≡ true))

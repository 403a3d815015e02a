-- What is and what is left out besides named records, by position. States of the code: no public clause cites them.
use Rattle.std.specs.Prelude.{◌≡◌, ◌⊎◌, ◌↔◌, ℕ, ◌<◌, Bool, true, false, List, [], ◌∷◌, length, Contains, slice_get, slice_index_or, slice_set, Option, Some, Result, OnOk}
use Rattle.warc_frame.specs.Effects.{FailsBy}
use Rattle.warc_frame.specs.Seen.{IfHeld, SeenSource}
use Rattle.warc_frame.specs.Send.{early_result}
use Rattle.warc_frame.specs.declared.fault.EarlyFault.{EarlyFault}
use Rattle.warc_record.specs.Readings.{Reading, reading_of}
use Rattle.warc_index.specs.Walks.{walk}
use Rattle.warc_segment.specs.Kept.{Kept as Parts}
use Rattle.warc_segment.specs.Series.{IsMemberAt, Piece, series_of}
use Rattle.warc_reading.specs.Archive.{IsArchiveOf}
use Rattle.warc_lookup.specs.Indexed.{AreOf, ArePartsOf}
use Rattle.warc_reading.specs.Rereading.{ReadsHeads}
use Rattle.warc_reading.specs.Row.{Placed, Row}
use Rattle.warc_index.specs.Orders.{Indexes}
use Rattle.warc_rewrite.specs.Closing.{NeedsOneOf}
use Rattle.warc_rewrite.specs.Closure.{records_read}
use Rattle.warc_rewrite.specs.Marks.{IsSegmentAt, IsSegmentBy, pieces_of}
use Rattle.warc_rewrite.specs.declared.remainder.Status.{Status}
use Rattle.warc_rewrite.specs.declared.remainder.Status.TheVariants.{Open, Named, Left, Kept, Touched, Untouched}

-- the standing of a position; one beyond the table is open
abbrev pub status_at : List Status → ℕ → Status
status_at statuses q = slice_index_or statuses q Open

-- it isn't known yet whether the record needs a named one
abbrev pub is_open : Status → Bool
is_open Open = true
is_open Touched = true
is_open Untouched = true
is_open Named = false
is_open Left = false
is_open Kept = false

-- the record needs a named one
abbrev pub is_left : Status → Bool
is_left Named = true
is_left Left = true
is_left Open = false
is_left Touched = false
is_left Untouched = false
is_left Kept = false

-- it needs none
abbrev pub needs_none : Status → Bool
needs_none Kept = true
needs_none Named = false
needs_none Left = false
needs_none Open = false
needs_none Touched = false
needs_none Untouched = false

abbrev pub IsOpen : List Status → ℕ → Type 0
IsOpen statuses q = is_open (status_at statuses q) ≡ true

abbrev pub IsLeftAt : List Status → ℕ → Type 0
IsLeftAt statuses q = is_left (status_at statuses q) ≡ true

abbrev pub IsKeptAt : List Status → ℕ → Type 0
IsKeptAt statuses q = needs_none (status_at statuses q) ≡ true

abbrev pub IsNamedAt : List Status → ℕ → Type 0
IsNamedAt statuses q = status_at statuses q ≡ Named

-- the positions are named, and no others
pub record NamesAll (positions : List ℕ) (old new : List Status) : Type 0 where
  pub same : length new ≡ length old
  pub each : (q : ℕ) → (status_at new q ≡ status_at old q) ⊎ (IsNamedAt new q × Contains positions q)
  pub all : (q : ℕ) → Contains positions q → q < length old → IsNamedAt new q

-- ---- the segments

-- one of these positions is named
abbrev pub HasNamed : List Status → List ℕ → Type 0
HasNamed statuses positions = (q : ℕ) × Contains positions q × IsNamedAt statuses q

-- a touched segment is of a series with a named one, and an untouched one of a series without
pub record AreMemos (pieces : List Piece) (statuses : List Status) : Type 0 where
  pub touched : (s : ℕ) (id : Option (List ℕ)) → status_at statuses s ≡ Touched → IsMemberAt (series_of id pieces) s
      → (q : ℕ) × IsNamedAt statuses q × IsMemberAt (series_of id pieces) q
  pub untouched : (s q : ℕ) (id : Option (List ℕ)) → status_at statuses s ≡ Untouched
      → IsMemberAt (series_of id pieces) s → IsMemberAt (series_of id pieces) q → IsNamedAt statuses q → ⊥

abbrev pub memo_of : Bool → Status
memo_of true = Touched
memo_of false = Untouched

-- a memo is kept of an open segment, or nothing changes
abbrev pub KeepsMemo : ℕ → Bool → List Status → List Status → Type 0
KeepsMemo segment named old new = (new ≡ old)
    ⊎ ((status_at old segment ≡ Open) × (segment < length old) × (new ≡ slice_set old segment (memo_of named)))

-- what was open may be a memo now
abbrev pub IsMemoOf : Status → Status → Type 0
IsMemoOf old new = (old ≡ Open) × ((new ≡ Touched) ⊎ (new ≡ Untouched))

-- whether a record with this head has a named segment
pub record JudgesSeries (pieces : List Piece) (head : Reading) (old new : List Status) (named : Bool) : Type 0 where
  pub kept : (q : ℕ) → (status_at new q ≡ status_at old q) ⊎ IsMemoOf (status_at old q) (status_at new q)
  pub memos : AreMemos pieces new
  pub has : named ≡ true → (q : ℕ) × IsNamedAt old q × IsSegmentBy pieces head q
  pub none : named ≡ false → (q : ℕ) → IsNamedAt old q → IsSegmentBy pieces head q → ⊥

-- of the first n records, those with a named segment are left out
pub record AreLeftBySegments (records : List Placed) (n : ℕ) (base statuses : List Status) : Type 0 where
  pub named : (q : ℕ) → IsNamedAt base q → IsNamedAt statuses q
  pub only : (q : ℕ) → IsNamedAt statuses q → IsNamedAt base q
  pub left : (p : ℕ) → status_at statuses p ≡ Left → (q : ℕ) × IsNamedAt base q × IsSegmentAt records p q
  pub done : (p q : ℕ) → p < n → IsNamedAt base q → IsSegmentAt records p q → IsLeftAt statuses p
  pub memos : AreMemos (pieces_of records) statuses
  pub unkept : (q : ℕ) → IsKeptAt statuses q → ⊥

-- a record with this head is left out if it has a named segment
pub record LeavesIfNamed (pieces : List Piece) (head : Reading) (position : ℕ) (old new : List Status) : Type 0 where
  pub mid : List Status
  pub named : Bool
  pub same : length mid ≡ length old
  pub series : JudgesSeries pieces head old mid named
  pub left : named ≡ true → position < length mid → new ≡ slice_set mid position Left
  pub kept : named ≡ false → new ≡ mid

-- at the beginning all positions but the named ones are open
abbrev pub AreFresh : List Status → Type 0
AreFresh statuses = (q : ℕ) → (status_at statuses q ≡ Open) ⊎ IsNamedAt statuses q

-- the record at a position is judged by its segments, where the source holds the archive's bytes
pub record JudgesRecord (rows : List Row) (parts : Parts) (position : ℕ) (statuses left : List Status)
    (old new : SeenSource) (answer : Result (Unit {0}) EarlyFault) : Type 0 where
  pub reported : IfHeld old.holds (λ bytes. (is : IsArchiveOf bytes rows) (p : Placed)
      → slice_get is.are.records position ≡ Some p → ArePartsOf is.are.records parts
      → AreMemos (pieces_of is.are.records) statuses
      → OnOk answer (LeavesIfNamed (pieces_of is.are.records) (reading_of p.content.fields) position statuses left))
  pub reads : (row : Row) → slice_get rows position ≡ Some row → ReadsHeads (row ∷ []) old new
  pub fails : FailsBy (λ bytes. IsArchiveOf bytes rows) (early_result answer) old new

-- all records are judged by their segments; each head is read at most once, and nothing else
pub record JudgesRecords (rows : List Row) (parts : Parts) (statuses left : List Status) (old new : SeenSource)
    (answer : Result (Unit {0}) EarlyFault) : Type 0 where
  pub reported : IfHeld old.holds (λ bytes. (is : IsArchiveOf bytes rows) → ArePartsOf is.are.records parts
      → AreFresh statuses → OnOk answer (AreLeftBySegments is.are.records (length rows) statuses left))
  pub reads : ReadsHeads rows old new
  pub fails : FailsBy (λ bytes. IsArchiveOf bytes rows) (early_result answer) old new

-- ---- the ways

-- within n steps the way from p comes to q
pub record IsOnWay (next : ℕ → Option ℕ) (p n q : ℕ) : Type 0 where
  pub steps : ℕ
  pub less : steps < n
  pub way : walk next p steps ≡ Some q

-- the way from p comes to a record that is left out at the beginning
pub record LeadsToLeft (next : ℕ → Option ℕ) (base : List Status) (p : ℕ) : Type 0 where
  pub steps : ℕ
  pub place : ℕ
  pub way : walk next p steps ≡ Some place
  pub left : IsLeftAt base place

-- what is known of standings is right
pub record AreSettled (next : ℕ → Option ℕ) (base statuses : List Status) : Type 0 where
  pub start : (q : ℕ) → IsLeftAt base q → IsLeftAt statuses q
  pub left : (q : ℕ) → IsLeftAt statuses q → LeadsToLeft next base q
  pub kept : (q r : ℕ) → IsKeptAt statuses q → next q ≡ Some r → IsKeptAt statuses r

-- the first n places of a way were open, and are kept now
pub record WalksOn (next : ℕ → Option ℕ) (p n : ℕ) (old new : List Status) : Type 0 where
  pub each : (q : ℕ) → (status_at new q ≡ status_at old q) ⊎ (IsKeptAt new q × IsOpen old q × IsOnWay next p n q)
  pub way : (q : ℕ) → IsOnWay next p n q → IsKeptAt new q × IsOpen old q

-- the first n places of a way are left out
pub record LeavesWay (next : ℕ → Option ℕ) (p n : ℕ) (old new : List Status) : Type 0 where
  pub each : (q : ℕ) → (status_at new q ≡ status_at old q) ⊎ (IsLeftAt new q × IsOnWay next p n q)
  pub way : (q : ℕ) → IsOnWay next p n q → q < length old → IsLeftAt new q

-- what is known stays right, and the record at p is among it
pub record Settles (next : ℕ → Option ℕ) (base : List Status) (p : ℕ) (old new : List Status) : Type 0 where
  pub settled : AreSettled next base new
  pub known : is_open (status_at new p) ≡ false
  pub before : (q : ℕ) → is_open (status_at old q) ≡ false → is_open (status_at new q) ≡ false

-- all that is known is right, and all is known
pub record AreAllSettled (next : ℕ → Option ℕ) (base statuses : List Status) (count : ℕ) : Type 0 where
  pub settled : AreSettled next base statuses
  pub known : (q : ℕ) → q < count → is_open (status_at statuses q) ≡ false

-- where the source holds the archive's bytes, the records that are kept are those that need none at the positions
pub record FindsStatuses (rows : List Row) (index : Indexes) (parts : Parts) (positions : List ℕ)
    (statuses left : List Status) (old new : SeenSource) (answer : Result (Unit {0}) EarlyFault) : Type 0 where
  pub reported : IfHeld old.holds (λ bytes. (is : IsArchiveOf bytes rows) → AreOf is.are.records index parts
      → ((q : ℕ) → status_at statuses q ≡ Open)
      → OnOk answer ((p : ℕ) → p < length rows
      → IsKeptAt left p ↔ (NeedsOneOf (records_read is.are.records) positions p → ⊥)))
  pub reads : ReadsHeads rows old new
  pub fails : FailsBy (λ bytes. IsArchiveOf bytes rows) (early_result answer) old new

-- What is kept of an archive while it is read as a stream. States of the code, but for `IsKeptOf`, which public
-- contracts cite.
use Rattle.std.specs.Prelude.{◌≡◌, ◌≢◌, ℕ, ◌+◌, ◌<◌, ◌≤◌, ◌⊎◌, List, [], ◌++◌, length, map, take, drop, Option, Some, None, unwrap_or, Result, Ok, IfErr, IfOk, MatchResult, OnErr}
use Rattle.warc_field.specs.Area.{Pair}
use Rattle.warc_frame.specs.Decoding.{Finishes, State, IsAt}
use Rattle.warc_frame.specs.Faults.{AllAccepted}
use Rattle.warc_frame.specs.Record.{max_archive}
use Rattle.warc_frame.specs.Reported.{Reported, Unclosed, IsHeadOf}
use Rattle.warc_frame.specs.declared.fault.Fault.{Fault}
use Rattle.warc_frame.specs.declared.fault.FaultKind.{FaultKind}
use Rattle.warc_frame.specs.declared.fault.FaultKind.TheVariants.{Memory, Read, Truncated}
use Rattle.warc_record.specs.Heads.{head_fault}
use Rattle.warc_record.specs.Readings.{reading_of}
use Rattle.warc_quick.specs.declared.head.QuickHead.{QuickHead}
use Rattle.warc_reading.specs.Archive.{IsArchiveOf, SpellsFrom, contents, IsFaultOf, IsRecordEnd}
use Rattle.warc_reading.specs.Fronts.{IsLongestFront, reach_of}
use Rattle.warc_reading.specs.Row.{Placed, Row, row_of}
use Rattle.warc_frame.specs.Seen.{AsksOnly, IfHeld, SeenSource}
use Rattle.warc_reading.specs.declared.stream.Current.{Current}
use Rattle.warc_reading.specs.declared.stream.StreamState.{StreamState}

-- what is kept of a good head
pub record IsHead {A B : Type 0} (fields : List Pair) (c : Current A B) : Type 0 where
  pub good : head_fault fields ≡ None
  pub fields_are : c.head ≡ fields

-- the record that is being read begins at this offset, and of it these bytes were taken and this was reported
pub record IsCurrent {A B : Type 0} (Sees : B → List Pair → List ℕ → Type 0) (begin : ℕ) (rest : List ℕ) (u : Unclosed)
    (c : Current A B) : Type 0 where
  pub head : List ℕ
  pub tail : List ℕ
  pub rest_is : rest ≡ head ++ tail
  pub head_is : IsHeadOf u head
  pub of : IsHead u.fields c
  pub start : c.block_start ≡ begin + length head
  pub len : c.block_len ≡ u.block_len
  pub seen : Sees c.block u.fields u.bytes

abbrev pub Matches : {A B : Type 0} → (B → List Pair → List ℕ → Type 0) → ℕ → List ℕ → Option Unclosed
    → Option (Current A B) → Type 0
Matches Sees begin rest None None = Unit {0}
Matches Sees begin rest None (Some c) = ⊥
Matches Sees begin rest (Some u) None = ⊥
Matches Sees begin rest (Some u) (Some c) = IsCurrent Sees begin rest u c

-- of a text of which this was reported: a row of each record that ended and what else is kept, where the next
-- record begins, and what is kept of it
pub record HasRead {A B L : Type 0} (Sees : B → List Pair → List ℕ → Type 0) (Keeps : L → List Placed → Type 0)
    (text : List ℕ) (reported : Reported) (r : StreamState A L B) : Type 0 where
  pub records : List Placed
  pub front : List ℕ
  pub rest : List ℕ
  pub text_is : text ≡ front ++ rest
  pub spelled : SpellsFrom 0 records front
  pub reported_is : reported.records ≡ contents records
  pub good : AllAccepted head_fault reported.records
  pub rows_are : r.rows ≡ map row_of records
  pub beside : Keeps r.beside records
  pub begin_is : r.begin ≡ length front
  pub current : Matches Sees (length front) rest reported.unclosed r.current

-- a list goes on with more
abbrev pub Extends : {X : Type 0} → List X → List X → Type 0
Extends {X} old new = (more : List X) × (new ≡ old ++ more)

-- it is kept of these records, the first of which are those
abbrev pub Since : {L : Type 0} → (L → List Placed → Type 0) → List Placed → L → List Placed → Type 0
Since Keeps was l records = Keeps l records × Extends was records

-- it is kept of records the first of which are these
abbrev pub IsLeft : {L : Type 0} → (L → List Placed → Type 0) → List Placed → L → Type 0
IsLeft Keeps was l = (more : List Placed) × Keeps l (was ++ more)

-- the decoder took this text, and what it reported was kept
pub record IsReadSoFar {A B L : Type 0} (Sees : B → List Pair → List ℕ → Type 0) (Keeps : L → List Placed → Type 0)
    (text : List ℕ) (d : State) (r : StreamState A L B) : Type 0 where
  pub reported : Reported
  pub is_at : IsAt 0 text reported d
  pub has : HasRead Sees Keeps text reported r

-- the row of the record that is being read
abbrev pub row_by : {A B : Type 0} → ℕ → Current A B → Row
row_by begin c = record {
  offset = begin;
  block_start = c.block_start;
  block_len = c.block_len;
  is_truncated = (reading_of c.head).truncated;
  kind = unwrap_or (reading_of c.head).type_text [];
  date = unwrap_or (reading_of c.head).date_text [];
  id = unwrap_or (reading_of c.head).id_text [];
  target = unwrap_or (reading_of c.head).target [];
}

-- the row of the record at this offset whose head is plain
abbrev pub plain_row : ℕ → ℕ → QuickHead → Row
plain_row offset start head = record {
  offset = offset;
  block_start = start;
  block_len = head.block_len;
  is_truncated = head.texts.is_truncated;
  kind = head.texts.kind.now;
  date = head.texts.date.now;
  id = head.texts.id.now;
  target = head.texts.target.now;
}

-- these are the rows of the records that bytes spell, and what else is needed of them is kept
pub record IsKeptOf {L : Type 0} (Keeps : L → List Placed → Type 0) (bytes : List ℕ) (kept : List Row × L)
    : Type 0 where
  pub listed : IsArchiveOf bytes kept.0
  pub beside : Keeps kept.1 listed.are.records

-- why bytes are refused, whatever follows them: memory ran out at a record, or this is their first fault
abbrev pub StaysBy : FaultKind → List ℕ → Fault → Type 0
StaysBy Memory bytes f = IsRecordEnd bytes f.offset
StaysBy Read bytes f = ⊥
StaysBy Truncated bytes f = ⊥
StaysBy kind bytes f = IsFaultOf bytes f

abbrev pub StaysRefused : List ℕ → Fault → Type 0
StaysRefused bytes f = StaysBy f.kind bytes f

-- whatever follows this text, these are the rows of the longest front of what was read before it was refused
abbrev pub Stops : List ℕ → List Row → Fault → Type 0
Stops text rows f = (more : List ℕ) → IsLongestFront (take (reach_of f) (text ++ more)) rows

-- after this text the record that is being read is still the same, or it begins after the text
abbrev pub BeginsSince : List ℕ → ℕ → ℕ → Type 0
BeginsSince text old new = (new ≡ old) ⊎ (length text ≤ new)

-- memory ran out while a piece after this text was taken: for the record that was being read, or one that
-- begins after the text; and for one that begins before the piece ends
abbrev pub WantsSince : List ℕ → List ℕ → ℕ → Fault → Type 0
WantsSince text piece begin f = f.kind ≡ Memory → BeginsSince text begin f.offset × (f.offset < length (text ++ piece))

-- these bytes were read of a source, from an offset on, with at most one read for each
pub record HasGivenFrom (start : ℕ) (old new : SeenSource) (taken : List ℕ) : Type 0 where
  pub part : IfHeld old.holds (λ bytes. taken ≡ take (length taken) (drop start bytes))
  pub kept : new.holds ≡ old.holds
  pub sound : new.faults ≡ old.faults
  pub cost : new.reads ≤ old.reads + length taken
  pub watched : new.watches ≡ old.watches
  pub near : AsksOnly (λ at. at ≤ max_archive) old new

-- these bytes were read of a source, from an offset on, each read where the one before ended
abbrev pub Follows : ℕ → List ℕ → SeenSource → SeenSource → Type 0
Follows start taken old new = old.next ≡ Some start
    → (new.jumps ≡ old.jumps) × (new.next ≡ Some (start + length taken))

-- this text was read of a source, from its beginning on
abbrev pub HasGiven : SeenSource → SeenSource → List ℕ → Type 0
HasGiven old new text = HasGivenFrom 0 old new text

-- the decoder is between records: whatever it took, all of it was reported
abbrev pub IsBetween : State → Type 0
IsBetween d =
    (at : ℕ) (taken : List ℕ) (reported : Reported) → IsAt at taken reported d → Finishes at taken reported (Ok tt)

-- the front of a piece is taken, and what is in it is kept; or it is refused, and what was kept stays
pub record TakesFront {A B L : Type 0} (Sees : B → List Pair → List ℕ → Type 0) (Keeps : L → List Placed → Type 0)
    (piece : List ℕ) (d : State) (r : StreamState A L B) (after : State) (now : StreamState A L B)
    (answer : Result ℕ Fault) : Type 0 where
  pub history : (was : List Placed) (text : List ℕ) → IsReadSoFar Sees (Since Keeps was) text d r
      → MatchResult answer (λ took. IsReadSoFar Sees (Since Keeps was) (text ++ take took piece) after now)
      (StaysRefused (text ++ piece))
  pub begins : (was : List Placed) (text : List ℕ) → IsReadSoFar Sees (Since Keeps was) text d r
      → MatchResult answer (λ took. BeginsSince text r.begin now.begin) (WantsSince text piece r.begin)
  pub left : (was : List Placed) (text : List ℕ) → IsReadSoFar Sees (Since Keeps was) text d r
      → OnErr answer (IsLeft Keeps was now.beside)
  pub stops : (was : List Placed) (text : List ℕ) → IsReadSoFar Sees (Since Keeps was) text d r
      → IfErr answer (Stops (text ++ piece) now.rows)
  pub rows : Extends r.rows now.rows
  pub taken : (at : ℕ) (taken : List ℕ) (reported : Reported) → IsAt at taken reported d → MatchResult answer
      (λ took. (next : Reported) × IsAt at (taken ++ take took piece) next after) (λ f. f.kind ≢ Read)
  pub within : IfOk answer (λ took. (0 < took) × (took ≤ length piece))

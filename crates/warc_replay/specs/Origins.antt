-- The origin at a position: its head, and the places of the blocks that are joined to its own. States of the code: no
-- public clause cites them.
use Rattle.std.specs.Prelude.{◌≡◌, ℕ, ◌+◌, ◌<◌, ◌≤◌, Bool, List, length, map, slice_get, All, Option, Some, None, Result, Ok, Err, IfErr, IfOk, ⊤}
use Rattle.warc_field.specs.Area.{Pair}
use Rattle.warc_value.specs.declared.hash.Wanted.{Wanted}
use Rattle.warc_frame.specs.Effects.{FailsBy, Preserves, ReadsOnly}
use Rattle.warc_frame.specs.Seen.{AsksOnly, IfHeld, SeenSource}
use Rattle.warc_frame.specs.declared.fault.OutFault.TheVariants.{Memory}
use Rattle.warc_record.specs.Readings.{Reading, reading_of}
use Rattle.warc_segment.specs.Joined.{PlacedRecord, joined_places}
use Rattle.warc_segment.specs.Kept.{Kept as Parts}
use Rattle.warc_segment.specs.declared.gap.Gap.{Gap}
use Rattle.warc_segment.specs.declared.place.Place.{Place}
use Rattle.warc_answer.specs.Payloads.{is_http_response}
use Rattle.warc_answer.specs.Replays.{out_result}
use Rattle.warc_answer.specs.Seen.{IsEarly}
use Rattle.warc_answer.specs.Stored.{own_type}
use Rattle.warc_answer.specs.declared.answer.Reason.TheVariants.{Segments}
use Rattle.warc_answer.specs.declared.answer.ReplayFault.{ReplayFault}
use Rattle.warc_answer.specs.declared.answer.ReplayFault.TheVariants.{Reason, Out}
use Rattle.warc_reading.specs.Archive.{IsArchiveOf, contents}
use Rattle.warc_lookup.specs.Indexed.{placed_record, ArePartsOf}
use Rattle.warc_reading.specs.Row.{Placed, Row}
use Rattle.warc_replay.specs.KnownSeries.{JoinsLike, IsSharedBy}
use Rattle.warc_replay.specs.Replaying.{IsOfOrigin, reads_of}
use Rattle.warc_replay.specs.declared.replay.known_series.Shared.{Shared}
use Rattle.warc_replay.specs.declared.replay.origin.Origin.{Origin}

-- the place that a row and the digest that a head asks for say
abbrev pub place_in : Row → Wanted → Place
place_in row wanted = record {
  start = row.block_start;
  len = row.block_len;
  wanted = wanted;
  truncated = row.is_truncated;
}

-- a record whose head says this, at the place of a row's record
abbrev pub placed_by : Row → Reading → PlacedRecord
placed_by row head = record { head = head; place = place_in row head.wanted }

-- what is kept of an origin whose head says this, and has this `Content-Type`: whether it is an HTTP response, and what
-- is joined to it among these records; or the gap as a reason, or nothing where a read or an allocation failed
abbrev pub IsOriginBy : {A : Type 0} → List PlacedRecord → Row → Reading → List ℕ → Result (Origin A) ReplayFault
    → Type 0
IsOriginBy all row head content_type (Ok o) =
    (o.http ≡ is_http_response head) × (o.content_type.items ≡ content_type)
    × (joined_places all (placed_by row head) ≡ Ok o.places.items)
    × IsSharedBy all (placed_by row head) o.shared o.places.items
IsOriginBy all row head content_type (Err (Reason why)) =
    (gap : Gap) × (why ≡ Segments gap) × (joined_places all (placed_by row head) ≡ Err gap)
IsOriginBy all row head content_type (Err (Out e)) = ⊤

-- a reason, or no memory
abbrev pub IsUnjoined : ReplayFault → Type 0
IsUnjoined (Reason why) = ⊤
IsUnjoined (Out e) = e ≡ Memory 0

-- what is kept of an origin with these fields
abbrev pub IsOriginOf : {A : Type 0} → List PlacedRecord → Row → List Pair → Result (Origin A) ReplayFault → Type 0
IsOriginOf all row fields answer = IsOriginBy all row (reading_of fields) (own_type fields) answer

-- the places are those of what is joined to the block of a row's record, whatever its head says
abbrev pub IsPlacedBy : {A : Type 0} → List PlacedRecord → Row → Origin A → Type 0
IsPlacedBy all row o = (head : Reading) × (joined_places all (placed_by row head) ≡ Ok o.places.items)
    × IsSharedBy all (placed_by row head) o.shared o.places.items

-- the places are those of a series, if any
abbrev pub IsOfSeries : List PlacedRecord → Option Shared → List Place → Type 0
IsOfSeries all None places = ⊤
IsOfSeries all (Some shared) places = JoinsLike all shared.segment shared.size places shared.rest

-- the rows and the parts are those of an archive of these bytes, and the position is that of a record
abbrev pub IsRecordAt : List Row → Parts → ℕ → List ℕ → Type 0
IsRecordAt rows parts position bytes = (is : IsArchiveOf bytes rows) × ArePartsOf is.are.records parts
    × (position < length (contents is.are.records))

-- the record at the position is an HTTP response or isn't, this is its own `Content-Type`, and these are the places of
-- what is joined to its block
pub record IsOriginAt (records : List Placed) (position : ℕ) (http : Bool) (content_type : List ℕ) (places : List Place)
    : Type 0 where
  pub placed : Placed
  pub there : slice_get records position ≡ Some placed
  pub http_is : http ≡ is_http_response (reading_of placed.content.fields)
  pub type_is : content_type ≡ own_type placed.content.fields
  pub places_are : joined_places (map placed_record records) (placed_record placed) ≡ Ok places

-- these places are joined to the block of the record at the position, from this series if it begins one
pub record IsSharedAt (records : List Placed) (position : ℕ) (shared : Option Shared) (places : List Place)
    : Type 0 where
  pub placed : Placed
  pub there : slice_get records position ≡ Some placed
  pub is : IsSharedBy (map placed_record records) (placed_record placed) shared places

-- the segments of the record at the position don't join
pub record IsGapAt (records : List Placed) (position : ℕ) (gap : Gap) : Type 0 where
  pub placed : Placed
  pub there : slice_get records position ≡ Some placed
  pub gap_is : joined_places (map placed_record records) (placed_record placed) ≡ Err gap

-- the origin at a position; or its gap, or nothing where a read or an allocation failed
abbrev pub IsOriginFound : {A : Type 0} → List Placed → ℕ → Result (Origin A) ReplayFault → Type 0
IsOriginFound records position (Ok o) = IsOriginAt records position o.http o.content_type.items o.places.items
IsOriginFound records position (Err (Reason why)) = (gap : Gap) × (why ≡ Segments gap) × IsGapAt records position gap
IsOriginFound records position (Err (Out e)) = ⊤

-- over any source: no byte after the archive's was asked for, and the places that are given end before it does
pub record StaysInside {X : Type 0} (items : X → List Place) (bytes : List ℕ) (old new : SeenSource)
    (answer : Result X ReplayFault) : Type 0 where
  pub asks : AsksOnly (λ at. at < length bytes) old new
  pub ends : IfOk answer (λ x. All (λ p. p.start + p.len ≤ length bytes) (items x))

-- what is found of the origin at a position, by rows and parts; of the source its head alone is read
pub record FindsOrigin {A : Type 0} (rows : List Row) (parts : Parts) (position : ℕ) (old new : SeenSource)
    (answer : Result (Origin A) ReplayFault) : Type 0 where
  pub reported : IfHeld old.holds (λ bytes. (is : IsArchiveOf bytes rows) → ArePartsOf is.are.records parts
      → IsOriginFound is.are.records position answer)
  pub shared : IfHeld old.holds (λ bytes. (is : IsArchiveOf bytes rows) → ArePartsOf is.are.records parts
      → IfOk answer (λ o. IsSharedAt is.are.records position o.shared o.places.items))
  pub reads : IfHeld old.holds (λ bytes. (is : IsArchiveOf bytes rows) → ArePartsOf is.are.records parts
      → ReadsOnly (IsOfOrigin is.are.records (slice_get is.are.records position))
      (reads_of 0 is.are.records (slice_get is.are.records position)) old new)
  pub inside : (bytes : List ℕ) (is : IsArchiveOf bytes rows) → ArePartsOf is.are.records parts
      → StaysInside (λ o. o.places.items) bytes old new answer
  pub early : IfErr answer IsEarly
  pub keeps : Preserves old new
  pub fails : FailsBy (IsRecordAt rows parts position) (out_result answer) old new

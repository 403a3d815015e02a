-- The series that join and were put in order. States of the code: no public clause cites them.
use Rattle.std.specs.Prelude.{◌≡◌, ◌≢◌, ℕ, ◌<◌, ◌==◌, List, ◌∷◌, length, drop, map, Option, Some, None, Result, Ok, Err, ⊤, if◌then◌else◌}
use Rattle.std.specs.BTreeMap.{BTreeMap, get}
use Rattle.std.specs.Ordering.{nat_cmp}
use Rattle.warc_record.specs.Readings.{Reading}
use Rattle.warc_record.specs.declared.readings.SegmentNumber.TheVariants.{Number}
use Rattle.warc_segment.specs.Joined.{PlacedRecord, joined_places, piece_placed}
use Rattle.warc_segment.specs.Kept.{Kept as Parts, kept_in}
use Rattle.warc_segment.specs.Series.{IsMemberAt, series_of}
use Rattle.warc_segment.specs.declared.fault.JoinFault.{JoinFault}
use Rattle.warc_segment.specs.declared.fault.JoinFault.TheVariants.{Gap as IsGap, Memory}
use Rattle.warc_segment.specs.declared.gap.Gap.{Gap}
use Rattle.warc_segment.specs.declared.gap.Gap.TheVariants.{Total}
use Rattle.warc_segment.specs.declared.place.Place.{Place}
use Rattle.warc_answer.specs.Split.{IsExtentOf}
use Rattle.warc_answer.specs.declared.split.Extent.{Extent}
use Rattle.warc_replay.specs.declared.replay.known_series.Joined.{Joined}
use Rattle.warc_replay.specs.declared.replay.known_series.KnownSeries.{KnownSeries}
use Rattle.warc_replay.specs.declared.replay.known_series.Shared.{Shared}

-- a head is that of a first segment, whose series has the segment at a position
abbrev pub BeginsSeries : List PlacedRecord → ℕ → Reading → Type 0
BeginsSeries all segment head =
    (head.segment.number ≡ Number 1) × IsMemberAt (series_of head.id (map piece_placed all)) segment

-- the places that are joined to a first segment's own if it has this length, else the gap
abbrev pub joined_like : ℕ → List Place → Place → Result (List Place) Gap
joined_like size rest place = if place.len == size then Ok (place ∷ rest) else Err Total

-- after a first segment of this length the series of the segment at a position joins: to places like these, of which
-- those after the first have this extent
pub record JoinsLike (all : List PlacedRecord) (segment size : ℕ) (places : List Place) (rest : Extent) : Type 0 where
  pub some : 0 < length places
  pub joins : (r : PlacedRecord) → BeginsSeries all segment r.head
      → joined_places all r ≡ joined_like size (drop 1 places) r.place
  pub extent : IsExtentOf (drop 1 places) rest

-- what is kept of the series of the segment at a position
abbrev pub series_at : {A : Type 0} → BTreeMap ℕ (KnownSeries A) → ℕ → Option (KnownSeries A)
series_at table segment = get nat_cmp table segment

-- a series is kept of the segment, which joins after a first segment of another length
abbrev pub HasOtherLength : {A : Type 0} → BTreeMap ℕ (KnownSeries A) → ℕ → ℕ → Type 0
HasOtherLength {A} table segment len =
    (known : KnownSeries A) × (series_at table segment ≡ Some known) × (known.size ≢ len)

-- what is kept is right
abbrev pub AreSeries : {A : Type 0} → Parts → BTreeMap ℕ (KnownSeries A) → Type 0
AreSeries {A} parts table = (all : List PlacedRecord) → parts ≡ kept_in all
    → (segment : ℕ) (known : KnownSeries A) → series_at table segment ≡ Some known
    → JoinsLike all segment known.size known.places.items known.rest

-- a record is a first segment of this series, from which these places are joined
abbrev pub IsSharedFrom : List PlacedRecord → PlacedRecord → Shared → List Place → Type 0
IsSharedFrom all r shared places =
    BeginsSeries all shared.segment r.head × JoinsLike all shared.segment shared.size places shared.rest

-- a record is a first segment of the series from which these places are joined, if they are joined from one
abbrev pub IsSharedBy : List PlacedRecord → PlacedRecord → Option Shared → List Place → Type 0
IsSharedBy all r None places = ⊤
IsSharedBy all r (Some shared) places = IsSharedFrom all r shared places

-- the places of what is joined to a record, and their series; or the gap, or a failed allocation
abbrev pub IsJoinedOnce : {A : Type 0} → List PlacedRecord → PlacedRecord → Result (Joined A) JoinFault → Type 0
IsJoinedOnce all r (Ok joined) =
    (joined_places all r ≡ Ok joined.places.items) × IsSharedBy all r joined.shared joined.places.items
IsJoinedOnce all r (Err (IsGap gap)) = joined_places all r ≡ Err gap
IsJoinedOnce all r (Err Memory) = ⊤

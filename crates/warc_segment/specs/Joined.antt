-- The joined block of a record, and its places in the source: the blocks of its segments, one after another in the
-- order of their numbers (ISO 28500:2017, 7), or the first gap.
use Rattle.std.specs.Prelude.{◌≡◌, ◌⊎◌, ℕ, ◌+◌, ◌≤◌, List, [], ◌∷◌, length, take, drop, map, slice_get, Some, Result, Ok, Err}
use Rattle.std.specs.List.{filter_map, flat_map}
use Rattle.warc_record.specs.Readings.{Reading}
use Rattle.warc_segment.specs.declared.gap.Gap.{Gap}
use Rattle.warc_segment.specs.declared.place.Place.{Place}
use Rattle.warc_segment.specs.Series.{Piece, Member, piece_of, series_of}
use Rattle.warc_segment.specs.Gaps.{joined}

-- the record's own block, and of all blocks those at the members' positions
abbrev pub with_members : {X : Type 0} → List X → X → Result (List Member) Gap → Result (List X) Gap
with_members all own (Ok members) = Ok (own ∷ filter_map (λ m. slice_get all m.position) members)
with_members all own (Err gap) = Err gap

-- a record by what its head says, and its block
pub record ReadRecord : Type 0 where
  pub head : Reading
  pub block : List ℕ

abbrev pub piece_read : ReadRecord → Piece
piece_read r = piece_of r.head (length r.block)

-- the record and the records whose blocks follow its own, in their order
abbrev pub joined_records : List ReadRecord → ReadRecord → Result (List ReadRecord) Gap
joined_records all r =
    with_members all r (joined r.head.segment.number (length r.block) (series_of r.head.id (map piece_read all)))

-- its joined block, or the gap
abbrev pub blocks_of : Result (List ReadRecord) Gap → Result (List ℕ) Gap
blocks_of (Ok records) = Ok (flat_map (λ r. r.block) records)
blocks_of (Err gap) = Err gap

abbrev pub joined_block : List ReadRecord → ReadRecord → Result (List ℕ) Gap
joined_block all r = blocks_of (joined_records all r)

-- a record by what its head says, and the place of its block
pub record PlacedRecord : Type 0 where
  pub head : Reading
  pub place : Place

-- the record whose head says this, and whose block begins there and has this length
abbrev pub placed_with : Reading → ℕ → ℕ → PlacedRecord
placed_with head start len = record {
  head = head;
  place = record { start = start; len = len; wanted = head.wanted; truncated = head.truncated };
}

abbrev pub piece_placed : PlacedRecord → Piece
piece_placed r = piece_of r.head r.place.len

-- the places of the same blocks
abbrev pub joined_places : List PlacedRecord → PlacedRecord → Result (List Place) Gap
joined_places all r =
    with_members (map (λ q. q.place) all) r.place
    (joined r.head.segment.number r.place.len (series_of r.head.id (map piece_placed all)))

-- the place of a record's block among the bytes of a source, and what its head says of it
pub record IsPlaceOf (bytes : List ℕ) (p : Place) (r : ReadRecord) : Type 0 where
  pub within : p.start + p.len ≤ length bytes
  pub block : take p.len (drop p.start bytes) ≡ r.block
  pub wanted : p.wanted ≡ r.head.wanted
  pub truncated : p.truncated ≡ r.head.truncated

-- the places of the blocks of records, in their order
abbrev pub ArePlacesOf : List ℕ → List Place → List ReadRecord → Type 0
ArePlacesOf bytes [] [] = Unit {0}
ArePlacesOf bytes (p ∷ ps) (r ∷ rs) = IsPlaceOf bytes p r × ArePlacesOf bytes ps rs
ArePlacesOf bytes [] (r ∷ rs) = ⊥
ArePlacesOf bytes (p ∷ ps) [] = ⊥

-- placed records and read ones are the same, by head and by block
abbrev pub AreStored : List ℕ → List PlacedRecord → List ReadRecord → Type 0
AreStored bytes [] [] = Unit {0}
AreStored bytes (p ∷ ps) (r ∷ rs) = (p.head ≡ r.head) × IsPlaceOf bytes p.place r × AreStored bytes ps rs
AreStored bytes [] (r ∷ rs) = ⊥
AreStored bytes (p ∷ ps) [] = ⊥

-- the places of the joined records, or the same gap
abbrev pub ArePlacesJoined : List ℕ → Result (List Place) Gap → Result (List ReadRecord) Gap → Type 0
ArePlacesJoined bytes (Ok places) (Ok records) = ArePlacesOf bytes places records
ArePlacesJoined bytes (Err a) (Err b) = a ≡ b
ArePlacesJoined bytes (Ok places) (Err b) = ⊥
ArePlacesJoined bytes (Err a) (Ok records) = ⊥

-- the bytes at places, one after another
abbrev pub texts_at : List ℕ → Result (List Place) Gap → Result (List ℕ) Gap
texts_at bytes (Ok places) = Ok (flat_map (λ p. take p.len (drop p.start bytes)) places)
texts_at bytes (Err gap) = Err gap

-- what is joined as places are the places of the joined records
abbrev pub PlacesAreOfRecords : Type 0
PlacesAreOfRecords =
    (bytes : List ℕ) (ps : List PlacedRecord) (rs : List ReadRecord) (p : PlacedRecord) (r : ReadRecord)
    → AreStored bytes ps rs → p.head ≡ r.head → IsPlaceOf bytes p.place r
    → ArePlacesJoined bytes (joined_places ps p) (joined_records rs r)

-- the bytes at those places, one after another, are the joined block
abbrev pub PlacesHoldTheBlock : Type 0
PlacesHoldTheBlock =
    (bytes : List ℕ) (ps : List PlacedRecord) (rs : List ReadRecord) (p : PlacedRecord) (r : ReadRecord)
    → AreStored bytes ps rs → p.head ≡ r.head → IsPlaceOf bytes p.place r
    → texts_at bytes (joined_places ps p) ≡ joined_block rs r

-- a joined record has no segments, or the joined block is as long as the total that some record states
abbrev pub JoinedHasTotal : Type 0
JoinedHasTotal =
    (all : List ReadRecord) (r : ReadRecord) (joined : List ReadRecord) → joined_records all r ≡ Ok joined
    → (joined ≡ r ∷ []) ⊎ ((k : ℕ) × (last : ReadRecord) × (slice_get all k ≡ Some last)
    × (last.head.segment.total ≡ Some (length (flat_map (λ q. q.block) joined))))

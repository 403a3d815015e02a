-- What is joined as places and as blocks.
use Rattle.std.proofs.Common.{◌≡◌, ℕ, zero, suc, ◌+◌, ◌≤◌, List, [], ◌∷◌, ◌++◌, length, map, take, drop, Option, Some, None, Result, Ok, Err, slice_get, refl, sym, ◌∙◌, ap, subst, arith, length-drop}
use Rattle.std.specs.List.{filter_map, flat_map, cons_option}
use Rattle.std.proofs.lemmas.List.{length-take-le}
use Rattle.warc_record.specs.Readings.{Reading}
use Rattle.warc_segment.specs.declared.gap.Gap.{Gap}
use Rattle.warc_segment.specs.declared.place.Place.{Place}
use Rattle.warc_segment.specs.Series.{Piece, Member, piece_of, series_of}
use Rattle.warc_segment.specs.Gaps.{joined}
use Rattle.warc_segment.specs.Joined.{ReadRecord, PlacedRecord, IsPlaceOf, ArePlacesOf, AreStored, ArePlacesJoined, PlacesAreOfRecords, PlacesHoldTheBlock, piece_read, piece_placed, with_members, joined_records, joined_places, texts_at, blocks_of}

same_length : (bytes : List ℕ) (p : Place) (r : ReadRecord) → IsPlaceOf bytes p r → p.len ≡ length r.block
same_length bytes p r is =
    let n : length (drop p.start bytes) + p.start ≡ length bytes = long in
    sym (length-take-le p.len (drop p.start bytes) (omega arith)) ∙ ap length is.block
  where
    long : length (drop p.start bytes) + p.start ≡ length bytes
    long = let d = length-drop p.start bytes in let w : p.start + p.len ≤ length bytes = is.within in omega (arith, d)

same_piece : (bytes : List ℕ) (p : PlacedRecord) (r : ReadRecord) → p.head ≡ r.head → IsPlaceOf bytes p.place r
    → piece_placed p ≡ piece_read r
same_piece bytes p r head is =
    ap (λ (h : Reading). piece_of h p.place.len) head ∙ ap (piece_of r.head) (same_length bytes p.place r is)

same_pieces : (bytes : List ℕ) (ps : List PlacedRecord) (rs : List ReadRecord) → AreStored bytes ps rs
    → map piece_placed ps ≡ map piece_read rs
same_pieces bytes [] [] stored = refl
same_pieces bytes [] (r ∷ rs) stored = absurd stored
same_pieces bytes (p ∷ ps) [] stored = absurd stored
same_pieces bytes (p ∷ ps) (r ∷ rs) stored =
    ap (λ (q : Piece). q ∷ map piece_placed ps) (same_piece bytes p r stored.0 stored.1)
    ∙ ap (λ (qs : List Piece). piece_read r ∷ qs) (same_pieces bytes ps rs stored.2)

-- at each position is a record with its place, or none on either side
abbrev AreAt : List ℕ → Option Place → Option ReadRecord → Type 0
AreAt bytes None None = Unit {0}
AreAt bytes (Some p) (Some r) = IsPlaceOf bytes p r
AreAt bytes None (Some r) = ⊥
AreAt bytes (Some p) None = ⊥

are_at : (bytes : List ℕ) (ps : List PlacedRecord) (rs : List ReadRecord) (k : ℕ) → AreStored bytes ps rs
    → AreAt bytes (slice_get (map (λ q. q.place) ps) k) (slice_get rs k)
are_at bytes [] [] k stored = tt
are_at bytes [] (r ∷ rs) k stored = absurd stored
are_at bytes (p ∷ ps) [] k stored = absurd stored
are_at bytes (p ∷ ps) (r ∷ rs) zero stored = stored.1
are_at bytes (p ∷ ps) (r ∷ rs) (suc k) stored = are_at bytes ps rs k stored.2

one_more : (bytes : List ℕ) (o : Option Place) (q : Option ReadRecord) (ps : List Place) (rs : List ReadRecord)
    → AreAt bytes o q → ArePlacesOf bytes ps rs → ArePlacesOf bytes (cons_option o ps) (cons_option q rs)
one_more bytes None None ps rs at rest = rest
one_more bytes (Some p) (Some r) ps rs at rest = (at, rest)
one_more bytes None (Some r) ps rs at rest = absurd at
one_more bytes (Some p) None ps rs at rest = absurd at

at_members : (bytes : List ℕ) (ps : List PlacedRecord) (rs : List ReadRecord) (members : List Member)
    → AreStored bytes ps rs
    → ArePlacesOf bytes (filter_map (λ (m : Member). slice_get (map (λ q. q.place) ps) m.position) members)
    (filter_map (λ (m : Member). slice_get rs m.position) members)
at_members bytes ps rs [] stored = tt
at_members bytes ps rs (m ∷ members) stored =
    one_more bytes (slice_get (map (λ q. q.place) ps) m.position) (slice_get rs m.position)
    (filter_map (λ (n : Member). slice_get (map (λ q. q.place) ps) n.position) members)
    (filter_map (λ (n : Member). slice_get rs n.position) members)
    (are_at bytes ps rs m.position stored) (at_members bytes ps rs members stored)

with_own : (bytes : List ℕ) (ps : List PlacedRecord) (rs : List ReadRecord) (p : Place) (r : ReadRecord)
    (found : Result (List Member) Gap) → AreStored bytes ps rs → IsPlaceOf bytes p r
    → ArePlacesJoined bytes (with_members (map (λ q. q.place) ps) p found) (with_members rs r found)
with_own bytes ps rs p r (Ok members) stored is = (is, at_members bytes ps rs members stored)
with_own bytes ps rs p r (Err gap) stored is = refl

abbrev found_for : Reading → ℕ → List Piece → Result (List Member) Gap
found_for head size pieces = joined head.segment.number size (series_of head.id pieces)

same_found : (bytes : List ℕ) (ps : List PlacedRecord) (rs : List ReadRecord) (p : PlacedRecord) (r : ReadRecord)
    → AreStored bytes ps rs → p.head ≡ r.head → IsPlaceOf bytes p.place r
    → found_for p.head p.place.len (map piece_placed ps) ≡ found_for r.head (length r.block) (map piece_read rs)
same_found bytes ps rs p r stored head is =
    ap (λ (h : Reading). found_for h p.place.len (map piece_placed ps)) head
    ∙ (ap (λ (n : ℕ). found_for r.head n (map piece_placed ps)) (same_length bytes p.place r is)
    ∙ ap (found_for r.head (length r.block)) (same_pieces bytes ps rs stored))

pub places_are_of_records : PlacesAreOfRecords
places_are_of_records bytes ps rs p r stored head is =
    subst (λ (found : Result (List Member) Gap).
    ArePlacesJoined bytes (with_members (map (λ q. q.place) ps) p.place found) (joined_records rs r))
    (sym (same_found bytes ps rs p r stored head is))
    (with_own bytes ps rs p.place r (found_for r.head (length r.block) (map piece_read rs)) stored is)

same_texts : (bytes : List ℕ) (ps : List Place) (rs : List ReadRecord) → ArePlacesOf bytes ps rs
    → flat_map (λ (p : Place). take p.len (drop p.start bytes)) ps ≡ flat_map (λ (r : ReadRecord). r.block) rs
same_texts bytes [] [] are = refl
same_texts bytes [] (r ∷ rs) are = absurd are
same_texts bytes (p ∷ ps) [] are = absurd are
same_texts bytes (p ∷ ps) (r ∷ rs) are =
    ap (λ (t : List ℕ). t ++ flat_map (λ (q : Place). take q.len (drop q.start bytes)) ps) are.0.block
    ∙ ap (λ (t : List ℕ). r.block ++ t) (same_texts bytes ps rs are.1)

same_joined : (bytes : List ℕ) (a : Result (List Place) Gap) (b : Result (List ReadRecord) Gap)
    → ArePlacesJoined bytes a b → texts_at bytes a ≡ blocks_of b
same_joined bytes (Ok places) (Ok records) are = ap Ok (same_texts bytes places records are)
same_joined bytes (Err g) (Err h) are = ap Err are
same_joined bytes (Ok places) (Err h) are = absurd are
same_joined bytes (Err g) (Ok records) are = absurd are

pub places_hold_the_block : PlacesHoldTheBlock
places_hold_the_block bytes ps rs p r stored head is =
    same_joined bytes (joined_places ps p) (joined_records rs r)
    (places_are_of_records bytes ps rs p r stored head is)

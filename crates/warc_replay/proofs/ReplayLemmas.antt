-- What a replay gives over the bytes of an archive.
use Rattle.std.proofs.Common.{◌≡◌, inl, Bool, false, ℕ, zero, suc, ◌+◌, ◌-◌, ◌*◌, ◌<◌, ◌≤◌, List, [], ◌∷◌, length, map, Option, Some, None, Ok, Err, refl, sym, ap, subst, ◌∙◌, arith}
use Rattle.std.specs.Prelude.{Result}
use Rattle.std.specs.List.{slice_get}
use Rattle.std.proofs.lemmas.List.Sums.{sum_by-cons}
use Rattle.warc_value.specs.Dates.{Instant}
use Rattle.warc_frame.specs.Effects.{ReadsOnly}
use Rattle.warc_frame.proofs.EffectLemmas.{reads_none, reads_within}
use Rattle.warc_frame.specs.Seen.{AsksOnly, Seen, SeenSource}
use Rattle.warc_frame.specs.Send.{ended_by, sent_of}
use Rattle.std.proofs.lemmas.List.{length-append, length-map}
use Rattle.std.proofs.lemmas.List.Elements.{All-cons, All-contains, All-head, All-nil, All-tail}
use Rattle.std.specs.List.{All, cons_option, filter_map}
use Rattle.warc_index.specs.declared.unfound.Unfound.{Unfound}
use Rattle.warc_segment.specs.Joined.{ArePlacesJoined, ArePlacesOf, AreStored, IsPlaceOf, PlacedRecord, PlacesAreOfRecords, ReadRecord, joined_places, joined_records, with_members}
use Rattle.warc_segment.specs.Series.{Member}
use Rattle.std.specs.declared.vec.Vec.{Vec}
use Rattle.warc_segment.specs.Joining.{IsJoin}
use Rattle.warc_segment.specs.declared.fault.JoinFault.{JoinFault}
use Rattle.warc_segment.specs.declared.fault.JoinFault.TheVariants.{Gap as IsGap}
use Rattle.warc_segment.specs.declared.gap.Gap.{Gap}
use Rattle.warc_segment.specs.declared.place.Place.{Place}
use Rattle.warc_answer.specs.Answers.{index_of, path_at, path_for, path_from, path_of}
use Rattle.warc_answer.specs.Laws.{EndsInside, IsFound, PlacesAreAsLong}
use Rattle.warc_answer.specs.Payloads.{read_record}
use Rattle.warc_answer.specs.Places.{IsInOne}
use Rattle.warc_answer.specs.Replays.{WritesLate}
use Rattle.warc_answer.specs.declared.answer.ReplayFault.TheVariants.{Out}
use Rattle.warc_answer.specs.declared.answer.Path.{Path}
use Rattle.warc_reading.specs.Archive.{SpellsFrom, contents}
use Rattle.warc_reading.specs.Rereading.{IsInHead, ReadsHeads, heads_len}
use Rattle.warc_lookup.specs.Indexed.{indexed_record, place_of, placed_record}
use Rattle.warc_replay.specs.Looking.{ArePlacesFor}
use Rattle.warc_replay.specs.Replaying.{IsOfOrigin, joined_len, origin_joined, reads_of}
use Rattle.warc_reading.specs.Row.{Placed, Row, row_of}
use Rattle.warc_reading.specs.Placing.{IsPlacedIn}
use Rattle.warc_frame.specs.declared.fault.EarlyFault.{EarlyFault}
use Rattle.warc_frame.specs.declared.fault.EarlyFault.TheVariants.{Read, Memory}
use Rattle.warc_reading.proofs.ReadLemmas.{one_row}
use Rattle.warc_reading.proofs.RemainLemmas.{written}

-- the records, read
abbrev pub read_all : List Placed → List ReadRecord
read_all records = map read_record (contents records)

-- the block of a record that is in the bytes is at its place
place_here : (bytes : List ℕ) (p : Placed) → IsPlacedIn bytes p → IsPlaceOf bytes (place_of p) (read_record p.content)
place_here bytes p has = record { within = omega (arith, has.end, has.within); block = has.block; wanted = refl; truncated = refl }

-- all records, by place and by block
stored_by : (bytes : List ℕ) (records : List Placed) → ((i : ℕ) (p : Placed) → slice_get records i ≡ Some p → IsPlacedIn bytes p)
    → AreStored bytes (map placed_record records) (read_all records)
stored_by bytes [] all = tt
stored_by bytes (p ∷ ps) all = (refl, place_here bytes p (all 0 p refl), stored_by bytes ps (λ i q is. all (suc i) q is))

-- what an index keeps of them
pub same_index : (records : List Placed) → index_of (read_all records) ≡ map indexed_record records
same_index [] = refl
same_index (p ∷ ps) = ap (λ l. indexed_record p ∷ l) (same_index ps)

pub read_at : (records : List Placed) (i : ℕ) (p : Placed) → slice_get records i ≡ Some p → slice_get (read_all records) i ≡ Some (read_record p.content)
read_at [] i p is = absurd (cc is)
read_at (x ∷ xs) zero p is = let same : x ≡ p = cc is in ap (λ (q : Placed). Some (read_record q.content)) same
read_at (x ∷ xs) (suc i) p is = read_at xs i p is

-- what is found at the end of a path
pub found_as : (records : List Placed) (found : Result Path Unfound) (path : Path) (p : Placed) → found ≡ Ok path → slice_get records path.given ≡ Some p → (joined : Result (List ReadRecord) Gap)
    → joined_records (read_all records) (read_record p.content) ≡ joined → IsFound (read_all records) found path (read_record p.content) joined
found_as records found path p is at joined same = record {
  path_is = is;
  is_present = read_at records path.given p at;
  joined_is = same;
}

by_gap : (bytes : List ℕ) (r : Result (List ReadRecord) Gap) (gap : Gap) → ArePlacesJoined bytes (Err gap) r → r ≡ Err gap
by_gap bytes (Ok records) gap is = absurd is
by_gap bytes (Err other) gap is = ap Err (sym is)

by_places : (bytes : List ℕ) (r : Result (List ReadRecord) Gap) (places : List Place) → ArePlacesJoined bytes (Ok places) r → (joined : List ReadRecord) × (r ≡ Ok joined) × ArePlacesOf bytes places joined
by_places bytes (Ok joined) places is = (joined, refl, is)
by_places bytes (Err gap) places is = absurd is

module _ (bytes : List ℕ) (records : List Placed) (position : ℕ) (p : Placed) (spelled : SpellsFrom 0 records bytes) (there : slice_get records position ≡ Some p) where
  joined_as : PlacesAreOfRecords → ArePlacesJoined bytes (joined_places (map placed_record records) (placed_record p)) (joined_records (read_all records) (read_record p.content))
  joined_as law =
      law bytes (map placed_record records) (read_all records) (placed_record p) (read_record p.content) (stored_by bytes records (λ i r at. written bytes records spelled i r at)) refl
      (place_here bytes p (written bytes records spelled position p there))

  pub gap_is : (gap : Gap) → PlacesAreOfRecords → joined_places (map placed_record records) (placed_record p) ≡ Err gap → joined_records (read_all records) (read_record p.content) ≡ Err gap
  gap_is gap law same =
      by_gap bytes _ gap (subst (λ x. ArePlacesJoined bytes x (joined_records (read_all records) (read_record p.content))) same (joined_as law))

  pub places_are : (places : List Place) → PlacesAreOfRecords → joined_places (map placed_record records) (placed_record p) ≡ Ok places
      → (joined : List ReadRecord) × (joined_records (read_all records) (read_record p.content) ≡ Ok joined) × ArePlacesOf bytes places joined
  places_are places law same =
      by_places bytes _ places (subst (λ x. ArePlacesJoined bytes x (joined_records (read_all records) (read_record p.content))) same (joined_as law))

-- the places are those of what is joined to the origin
pub places_for : (bytes : List ℕ) (records : List Placed) (p : Placed) (items : List Place) (joined : List ReadRecord) → joined_places (map placed_record records) (placed_record p) ≡ Ok items → PlacesAreAsLong
    → joined_records (read_all records) (read_record p.content) ≡ Ok joined → ArePlacesOf bytes items joined → ArePlacesFor records p items
places_for bytes records p items joined is law whole are = record {
  are = is;
  long = law bytes items joined are ∙ ap joined_len (sym whole);
}

-- a head that isn't read again, as the end of an output
pub ended_sent : (fault : EarlyFault) → sent_of (ended_by fault 0) ≡ 0
ended_sent Read = refl
ended_sent Memory = refl

-- nothing goes out before it
pub ended_late : {X : Type 0} (fault : EarlyFault) (o : Seen) → WritesLate {X = X} (Err (Out (ended_by fault 0))) o o
ended_late {X} Read o = record { silent = tt; cause = refl }
ended_late {X} Memory o = record { silent = (refl, refl); cause = refl }

pub in_list : {X : Type 0} (xs : List X) (i : ℕ) (x : X) → slice_get xs i ≡ Some x → i < length xs
in_list [] i x is = absurd (cc is)
in_list (y ∷ ys) zero x is = omega arith
in_list (y ∷ ys) (suc i) x is = let lt = in_list ys i x is in omega (arith, lt)

-- the path that an index finds is that of the records
pub path_by_index : (records : List Placed) (uri : List ℕ) (moment : Instant) → path_of (map indexed_record records) uri moment ≡ path_for (contents records) uri moment
unfolding path_for
path_by_index records uri moment = ap (λ l. path_of l uri moment) (sym (same_index records))

pub path_by_links : (records : List Placed) (position : ℕ) → path_from (map indexed_record records) position ≡ path_at (contents records) position
unfolding path_at
path_by_links records position = ap (λ l. path_from l position) (sym (same_index records))

not_there : (records : List Placed) (i : ℕ) → i < length records → slice_get (map row_of records) i ≡ None → ⊥
not_there [] i low is = omega (arith, low)
not_there (p ∷ ps) zero low is = cc is
not_there (p ∷ ps) (suc i) low is = not_there ps i (omega (arith, low)) is

pub row_missing : (records : List Placed) (found : Result Path Unfound) (path : Path) → found ≡ Ok path → EndsInside (contents records) found
    → slice_get (map row_of records) path.given ≡ None → ⊥
row_missing records found path is inside none =
    let low = inside path is in
    not_there records path.given (omega (arith, low, length-map records (λ (q : Placed). q.content))) none

pub join_gap : {A : Type 0} (r : Result (Vec Place A) JoinFault) (gap : Gap) (joined : Result (List Place) Gap) → r ≡ Err (IsGap gap) → IsJoin r joined → joined ≡ Err gap
join_gap {A} r gap joined is join = let P : Result (Vec Place A) JoinFault → Type 0 = λ x. IsJoin x joined in subst P is join

in_own_head : (p : Placed) (row : Row) (at : ℕ) → row ≡ row_of p → IsInHead (row ∷ []) at → (p.offset ≤ at) × (at < p.block_start)
in_own_head p row at same in_ =
    let other = one_row row in_.row in_.place in_.is in
    (omega (arith, in_.from, ap (λ (r : Row). r.offset) (sym other ∙ same)), omega (arith, in_.to, ap (λ (r : Row). r.block_start) (sym other ∙ same)))

head_len_of : (p : Placed) (row : Row) → row ≡ row_of p → heads_len (row ∷ []) ≡ p.block_start - p.offset
head_len_of p row same =
    let one : row.block_start - row.offset ≡ p.block_start - p.offset = ap (λ (r : Row). r.block_start - r.offset) same in
    omega (arith, one, sum_by-cons (λ (r : Row). r.block_start - r.offset) row [])

no_more : {a b : ℕ} (more : ℕ) → a ≡ b → a ≤ b + more
no_more {a} {b} more is = omega (arith, is)

no_less : (n : ℕ) → n ≤ n
no_less n = omega arith

both_less : {a b : ℕ} (more : ℕ) → a ≡ b → a + more ≤ b + more
both_less {a} {b} more is = omega (arith, is)

-- the head of an origin, which is read again
pub reads_of_head : (times : ℕ) (records : List Placed) (p : Placed) (row : Row) {old new : SeenSource} → row ≡ row_of p → ReadsHeads (row ∷ []) old new
    → ReadsOnly (IsOfOrigin records (Some p)) (reads_of times records (Some p)) old new
reads_of_head times records p row {old} {new} same has =
    reads_within (λ at in_. inl (in_own_head p row at same in_)) (no_more (times * origin_joined records p) (head_len_of p row same)) has

-- nothing is read
pub reads_nothing : {These : ℕ → Type 0} {most : ℕ} {s : SeenSource} → ReadsOnly These most s s
reads_nothing {These} {most} {s} = reads_within (λ at in_. in_) (omega arith) reads_none

-- a source that watches none of these offsets has been asked for none that it watches
abbrev Asks : (ℕ → Type 0) → (ℕ → Bool) → ℕ → ℕ → Type 0
Asks These watches old new = ((at : ℕ) → These at → watches at ≡ false) → new ≡ old

-- ---- what a source is asked for, whatever it gives

all_at : (P : Place → Type 0) (xs : List Place) (i : ℕ) (p : Place) → All P xs → slice_get xs i ≡ Some p → P p
all_at P [] i p all is = absurd (cc is)
all_at P (x ∷ xs) zero p all is = let same : x ≡ p = cc is in subst P same (All-head P x xs all)
all_at P (x ∷ xs) (suc i) p all is = all_at P xs i p (All-tail P x xs all) is

all_option : (P : Place → Type 0) (o : Option Place) (xs : List Place) → ((p : Place) → o ≡ Some p → P p) → All P xs → All P (cons_option o xs)
all_option P None xs one all = all
all_option P (Some p) xs one all = All-cons P p xs (one p refl) all

members_all : (P : Place → Type 0) (xs : List Place) → All P xs → (members : List Member) → All P (filter_map (λ (m : Member). slice_get xs m.position) members)
members_all P xs all [] = All-nil P
members_all P xs all (m ∷ ms) = all_option P (slice_get xs m.position) (filter_map (λ (n : Member). slice_get xs n.position) ms) (λ p is. all_at P xs m.position p all is) (members_all P xs all ms)

joined_all : (P : Place → Type 0) (xs : List Place) (own : Place) (r : Result (List Member) Gap) (places : List Place) → All P xs → P own → with_members xs own r ≡ Ok places → All P places
joined_all P xs own (Ok members) places all one is =
    let same : own ∷ filter_map (λ (m : Member). slice_get xs m.position) members ≡ places = cc is in
    subst (λ l. All P l) same (All-cons P own (filter_map (λ (m : Member). slice_get xs m.position) members) one (members_all P xs all members))
joined_all P xs own (Err gap) places all one is = absurd (cc is)

-- a place ends before the bytes do
abbrev EndsBy : ℕ → Place → Type 0
EndsBy n p = p.start + p.len ≤ n

all_end : (q n : ℕ) (ps : List Placed) (text : List ℕ) → SpellsFrom q ps text → q + length text ≤ n → All (EndsBy n) (map (λ (r : PlacedRecord). r.place) (map placed_record ps))
all_end q n [] text is short = All-nil (EndsBy n)
all_end q n (p ∷ ps) text (front, rest, one, at, start, whole, more) short =
    let size : length text ≡ length front + length rest = ap length whole ∙ length-append front rest in
    All-cons (EndsBy n) (place_of p) (map (λ (r : PlacedRecord). r.place) (map placed_record ps)) (omega (arith, start, size, short)) (all_end (q + length front) n ps rest more (omega (arith, size, short)))

in_all : (n q : ℕ) (places : List Place) → All (EndsBy n) places → IsInOne places q → q < n
in_all n q places all (p, here, from, to) = omega (arith, to, All-contains (EndsBy n) places p all here)

module _ (bytes : List ℕ) (records : List Placed) (position : ℕ) (p : Placed) (spelled : SpellsFrom 0 records bytes) (there : slice_get records position ≡ Some p) where
  -- what is joined to a record is among the bytes, whatever its head is read as
  pub joined_end : (q : PlacedRecord) (items : List Place) → q.place.start ≡ p.block_start → q.place.len ≡ length p.content.block → joined_places (map placed_record records) q ≡ Ok items → All (EndsBy (length bytes)) items
  joined_end q items start len joined =
      let has = written bytes records spelled position p there in
      let own : EndsBy (length bytes) q.place = omega (arith, has.end, has.within, start, len) in
      joined_all (EndsBy (length bytes)) _ q.place _ items (all_end 0 (length bytes) records bytes spelled (omega arith)) own joined

  -- and so does its head
  pub head_inside : (row : Row) (old new : SeenSource) → row ≡ row_of p → ReadsHeads (row ∷ []) old new → AsksOnly (λ at. at < length bytes) old new
  head_inside row old new same head =
      let has = written bytes records spelled position p there in
      λ off. head.near (λ at in_. off at (omega (arith, has.end, has.within, (in_own_head p row at same in_).1)))

-- the head, and then what is joined
pub asks_both : (These : ℕ → Type 0) (old mid : SeenSource) (new : ℕ) → mid.watches ≡ old.watches → AsksOnly These old mid → Asks These mid.watches mid.watched_reads new → Asks These old.watches old.watched_reads new
asks_both These old mid new watched first then = λ off. then (λ at in_. ap (λ (w : ℕ → Bool). w at) watched ∙ off at in_) ∙ first off

-- then at places that end before the bytes do
pub then_inside : (bytes : List ℕ) (items places : List Place) (old mid new : SeenSource) → mid.watches ≡ old.watches → AsksOnly (λ at. at < length bytes) old mid
    → All (EndsBy (length bytes)) items → places ≡ items → AsksOnly (IsInOne places) mid new → AsksOnly (λ at. at < length bytes) old new
then_inside bytes items places old mid new watched first all same then =
    asks_both (λ at. at < length bytes) old mid new.watched_reads watched first
    (λ off. then (λ at in_. off at (in_all (length bytes) at items all (subst (λ (l : List Place). IsInOne l at) same in_))))

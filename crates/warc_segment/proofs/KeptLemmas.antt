-- The series of a record, and the places of its members, from what is kept.
use Rattle.std.proofs.Common.{◌≡◌, ◌⊎◌, inl, inr, ℕ, suc, ◌+◌, Bool, true, false, cond, ◌&&◌, List, [], ◌∷◌, map, Option, Some, None, slice_get, refl, sym, ◌∙◌, ap, arith}
use Rattle.std.specs.Prelude.{filter, nat_le}
use Rattle.std.specs.List.{filter_map, enumerate_from, cons_option}
use Rattle.std.specs.Str.{bytes_eq}
use Rattle.warc_record.specs.declared.readings.SegmentNumber.{SegmentNumber}
use Rattle.warc_record.specs.declared.readings.SegmentNumber.TheVariants.{Absent, Number, Bad}
use Rattle.warc_record.specs.Kinds.{is_continuation}
use Rattle.warc_record.specs.Texts.{is_same_text}
use Rattle.warc_segment.specs.declared.place.Place.{Place}
use Rattle.warc_segment.specs.Series.{Member, numbered, member_of, series_of}
use Rattle.warc_segment.specs.Joined.{PlacedRecord, piece_placed}
use Rattle.warc_segment.specs.Kept.{KeptMember, kept_by, kept_of, kept_in}
use Rattle.warc_segment.proofs.LeastLemmas.{IsReadSoFar, is_present_cases, is_present_nowhere, filter_hit, filter_miss}

-- a kept continuation as a member of a series
abbrev pub member_kept : KeptMember → Member
member_kept m = record { position = m.position; number = m.number; total = m.total; size = m.place.len }

-- it continues the record with the id
abbrev pub is_of : List ℕ → KeptMember → Bool
is_of id m = bytes_eq id m.origin

cond_same : {X : Type 0} (b : Bool) (x : X) → cond b x x ≡ x
cond_same true x = refl
cond_same false x = refl

-- one record more
abbrev pub reported : List ℕ → ℕ → PlacedRecord → Bool → Option (List ℕ) → SegmentNumber → Option Member
reported id n r goes_on origin number =
    cond (goes_on && is_same_text (Some id) origin) (numbered n (piece_placed r) number) None

abbrev pub stored : ℕ → PlacedRecord → Bool → Option (List ℕ) → SegmentNumber → Option KeptMember
stored n r goes_on origin number = cond goes_on (kept_by n r origin number) None

abbrev series_in : List ℕ → List KeptMember → List Member
series_in id members = map member_kept (filter (is_of id) members)

one_more : (id : List ℕ) (n : ℕ) (r : PlacedRecord) (members : List KeptMember) (goes_on : Bool)
    (origin : Option (List ℕ)) (number : SegmentNumber)
    → cons_option (reported id n r goes_on origin number) (series_in id members)
    ≡ series_in id (cons_option (stored n r goes_on origin number) members)
one_more id n r members false origin number = refl
one_more id n r members true None number = refl
one_more id n r members true (Some origin) Absent =
    ap (λ (o : Option Member). cons_option o (series_in id members)) (cond_same (bytes_eq id origin) None)
one_more id n r members true (Some origin) Bad =
    ap (λ (o : Option Member). cons_option o (series_in id members)) (cond_same (bytes_eq id origin) None)
one_more id n r members true (Some origin) (Number k) =
    by_tests (nat_le 2 k) (bytes_eq id origin) refl
    (record { origin = origin; position = n; number = k; total = r.head.segment.total; place = r.place }) refl
  where
    by_tests : (low here : Bool) → bytes_eq id origin ≡ here → (kept : KeptMember) → kept.origin ≡ origin
        → cons_option (cond (bytes_eq id origin) (cond low (Some (member_kept kept)) None) None)
        (series_in id members)
        ≡ series_in id (cons_option (cond low (Some kept) None) members)
    by_tests true true e kept f =
        ap (λ (b : Bool). cons_option (cond b (Some (member_kept kept)) None) (series_in id members)) e
        ∙ sym (ap (map member_kept) (filter_hit (is_of id) kept members (ap (bytes_eq id) f ∙ e)))
    by_tests true false e kept f =
        ap (λ (b : Bool). cons_option (cond b (Some (member_kept kept)) None) (series_in id members)) e
        ∙ sym (ap (map member_kept) (filter_miss (is_of id) kept members (ap (bytes_eq id) f ∙ e)))
    by_tests false here e kept f =
        ap (λ (o : Option Member). cons_option o (series_in id members)) (cond_same (bytes_eq id origin) None)

series_from : (id : List ℕ) (n : ℕ) (all : List PlacedRecord)
    → filter_map (member_of (Some id)) (enumerate_from n (map piece_placed all))
    ≡ series_in id (filter_map kept_of (enumerate_from n all))
series_from id n [] = refl
series_from id n (r ∷ all) =
    ap (cons_option (member_of (Some id) (n, piece_placed r))) (series_from id (n + 1) all)
    ∙ one_more id n r (filter_map kept_of (enumerate_from (n + 1) all)) (is_continuation r.head.kind)
    r.head.segment.origin r.head.segment.number

-- the series of the record with an id, from what is kept
pub series_is_kept : (id : List ℕ) (all : List PlacedRecord)
    → series_of (Some id) (map piece_placed all) ≡ map member_kept (filter (is_of id) (kept_in all).members)
series_is_kept id all = series_from id 0 all

-- ---- the places of what is kept

abbrev places_in : List PlacedRecord → List Place
places_in all = map (λ q. q.place) all

-- a kept continuation's position is that of a record with its place
record IsAt (all : List PlacedRecord) (n : ℕ) (m : KeptMember) : Type 0 where
  following : ℕ
  position : m.position ≡ following + n
  place : slice_get (places_in all) following ≡ Some m.place

pub kept_place : (n : ℕ) (r : PlacedRecord) (goes_on : Bool) (origin : Option (List ℕ)) (number : SegmentNumber)
    (m : KeptMember)
    → stored n r goes_on origin number ≡ Some m → (m.position ≡ n) × (m.place ≡ r.place)
kept_place n r false origin number m e = absurd (cc)
kept_place n r true None number m e = absurd (cc)
kept_place n r true (Some origin) Absent m e = absurd (cc)
kept_place n r true (Some origin) Bad m e = absurd (cc)
kept_place n r true (Some origin) (Number k) m e = by_test (nat_le 2 k) e
  where
    by_test : (low : Bool)
        → cond low (Some (record {
          origin = origin;
          position = n;
          number = k;
          total = r.head.segment.total;
          place =
              r.place;
        })) None
        ≡ Some m → (m.position ≡ n) × (m.place ≡ r.place)
    by_test false f = absurd (cc)
    by_test true f =
        let is : m ≡ record {
          origin = origin;
          position = n;
          number = k;
          total = r.head.segment.total;
          place =
              r.place;
        } = cc in
        (ap (λ (x : KeptMember). x.position) is, ap (λ (x : KeptMember). x.place) is)

is_present_option : {X : Type 0} (o : Option X) (xs : List X) (x : X) → IsReadSoFar (cons_option o xs) x
    → (o ≡ Some x) ⊎ IsReadSoFar xs x
is_present_option None xs x at = inr at
is_present_option (Some y) xs x at = elim (is_present_cases y xs x at) [
  | inl here ↦ inl (ap Some (sym here))
  | inr later ↦
      inr later
]

kept_at : (n : ℕ) (all : List PlacedRecord) (m : KeptMember)
    → IsReadSoFar (filter_map kept_of (enumerate_from n all)) m → IsAt all n m
kept_at n [] m at = absurd (is_present_nowhere m at)
kept_at n (r ∷ all) m at = elim (is_present_option (kept_of (n, r)) (filter_map kept_of (enumerate_from
    (n + 1) all)) m at) [
      | inl here ↦
          let is = kept_place n r (is_continuation r.head.kind) r.head.segment.origin r.head.segment.number m here in
          let z : n ≡ 0 + n = omega arith in
          record { following = 0; position = is.0 ∙ z; place = ap Some (sym is.1) }
      | inr later ↦
          let is : IsAt all (n + 1) m = kept_at (n + 1) all m later in
          let z : is.following + (n + 1) ≡ suc is.following + n = omega arith in
          record { following = suc is.following; position = is.position ∙ z; place = is.place }
    ]

pub place_of_kept : (all : List PlacedRecord) (m : KeptMember) → IsReadSoFar (kept_in all).members m
    → slice_get (map (λ q. q.place) all) m.position ≡ Some m.place
place_of_kept all m at =
    let is : IsAt all 0 m = kept_at 0 all m at in
    let z : is.following + 0 ≡ is.following = omega arith in
    ap (slice_get (places_in all)) (is.position ∙ z) ∙ is.place

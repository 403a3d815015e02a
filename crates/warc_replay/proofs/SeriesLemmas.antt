-- Series that join, and how what is kept of them stays right.
use Rattle.std.proofs.Common.{◌≡◌, ◌≢◌, ◌⊎◌, inl, inr, ℕ, suc, ◌+◌, ◌==◌, Bool, true, false, cond, List, ◌∷◌, drop, length, map, Option, Some, None, Result, Ok, Err, refl, sym, ap, subst, ◌∙◌, arith}
use Rattle.std.specs.Prelude.{IfSome, nat_eq}
use Rattle.std.proofs.lemmas.Bool.{eqb-false, eqb-true}
use Rattle.std.specs.BTreeMap.{BTreeMap, IsUnchanged, Updates, is_at}
use Rattle.std.specs.Cmp.{Equal-is}
use Rattle.std.specs.List.{filter_map, slice_get}
use Rattle.std.specs.Map.{lookup}
use Rattle.std.specs.Option.{option_eq, option_map, option_or}
use Rattle.std.specs.Ordering.{nat_cmp}
use Rattle.std.proofs.lemmas.Map.Lookups.{exact_unsigned}
use Rattle.warc_segment.specs.Gaps.{absent_or_total, end_of, followers, gap_of, gap_to, has_total, least_absent, least_after, least_repeated, unless_gap}
use Rattle.warc_segment.specs.Joined.{PlacedRecord, joined_places, piece_placed, with_members}
use Rattle.warc_segment.specs.Kept.{Kept as Parts, kept_in}
use Rattle.warc_segment.specs.Series.{Member, series_of}
use Rattle.warc_segment.specs.declared.fault.JoinFault.{JoinFault}
use Rattle.warc_segment.specs.declared.fault.JoinFault.TheVariants.{Gap as IsGap}
use Rattle.warc_segment.specs.declared.gap.Gap.{Gap}
use Rattle.warc_segment.specs.declared.gap.Gap.TheVariants.{AfterEnd, Repeated, Total}
use Rattle.warc_segment.specs.declared.place.Place.{Place}
use Rattle.warc_answer.specs.declared.split.Extent.{Extent}
use Rattle.warc_answer.specs.Split.{IsExtentOf}
use Rattle.warc_rewrite.proofs.MarkLemmas.{same_id}
use Rattle.warc_replay.specs.KnownSeries.{AreSeries, HasOtherLength, BeginsSeries, IsJoinedOnce, JoinsLike, IsSharedFrom, IsSharedBy, joined_like, series_at}
use Rattle.warc_replay.specs.declared.replay.known_series.Joined.{Joined}
use Rattle.warc_replay.specs.declared.replay.known_series.KnownSeries.{KnownSeries}
use Rattle.warc_replay.specs.declared.replay.known_series.Shared.{Shared}
use Rattle.warc_replay.proofs.GapLemmas.{first_joined}

-- ---- a series that joins after a first segment of one length has a wrong total after any other

eq_apart : (t a b s : ℕ) → t == a + s ≡ true → (b ≡ a → ⊥) → t == b + s ≡ false
eq_apart t a b s is other = by_test (t == b + s) refl
  where
    by_test : (test : Bool) → t == b + s ≡ test → t == b + s ≡ false
    by_test false e = e
    by_test true e =
        let one : t ≡ a + s = eqb-true t (a + s) is in
        let two : t ≡ b + s = eqb-true t (b + s) e in
        absurd (other (omega (arith, one, two)))

has_apart : (o : Option ℕ) (a b s : ℕ) → option_eq nat_eq o (Some (a + s)) ≡ true → (b ≡ a → ⊥) → option_eq nat_eq o (Some (b + s)) ≡ false
has_apart None a b s is other = absurd (cc is)
has_apart (Some t) a b s is other = eq_apart t a b s is other

none_right : (right : Bool) → cond right None (Some Total) ≡ None → right ≡ true
none_right true is = refl
none_right false is = absurd (cc is)

absent_apart : (absent : Option ℕ) (n a b : ℕ) (members : List Member) → absent_or_total absent n a members ≡ None → (b ≡ a → ⊥)
    → absent_or_total absent n b members ≡ Some Total
absent_apart (Some k) n a b members is other = absurd (cc is)
absent_apart None n a b members is other =
    ap (λ (r : Bool). cond r None (Some Total))
    (has_apart _ a b _ (none_right (has_total n a members) is) other)

after_apart : (after absent : Option ℕ) (n a b : ℕ) (members : List Member)
    → option_or (option_map AfterEnd after) (absent_or_total absent n a members) ≡ None → (b ≡ a → ⊥)
    → option_or (option_map AfterEnd after) (absent_or_total absent n b members) ≡ Some Total
after_apart (Some k) absent n a b members is other = absurd (cc is)
after_apart None absent n a b members is other = absent_apart absent n a b members is other

end_apart : (end : Option ℕ) (a b : ℕ) (members : List Member) → gap_to end a members ≡ None → (b ≡ a → ⊥) → gap_to end b members ≡ Some Total
end_apart None a b members is other = absurd (cc is)
end_apart (Some n) a b members is other = after_apart (least_after n members) (least_absent n members) n a b members is other

gap_apart : (a b : ℕ) (members : List Member) → gap_of a members ≡ None → (b ≡ a → ⊥) → gap_of b members ≡ Some Total
gap_apart a b members is other = by_first (least_repeated members) is
  where
    by_first : (first : Option ℕ) → option_or (option_map Repeated first) (gap_to (end_of members) a members) ≡ None
        → option_or (option_map Repeated first) (gap_to (end_of members) b members) ≡ Some Total
    by_first (Some k) from = absurd (cc from)
    by_first None from = end_apart (end_of members) a b members from other

-- ---- what is joined to a first segment

module _ (all : List PlacedRecord) where
  abbrev places : List Place
  places = map (λ (q : PlacedRecord). q.place) all

  abbrev rest_of : List Member → List Place
  rest_of members = filter_map (λ (m : Member). slice_get places m.position) (followers members)

  abbrev joined_by : Place → List Member → Option Gap → Result (List Place) Gap
  joined_by place members gap = with_members places place (unless_gap gap members)

  first_is : (r : PlacedRecord) (segment : ℕ) → BeginsSeries all segment r.head
      → joined_places all r ≡ joined_by r.place (series_of r.head.id (map piece_placed all)) (gap_of r.place.len (series_of r.head.id (map piece_placed all)))
  first_is r segment first =
      ap (with_members places r.place) (first_joined r.head.segment.number r.place.len (series_of r.head.id (map piece_placed all)) first.0)

  rest_is : (place : Place) (members : List Member) (gap : Option Gap) (items : List Place) → joined_by place members gap ≡ Ok items
      → (gap ≡ None) × (items ≡ place ∷ rest_of members)
  rest_is place members (Some gap) items is = absurd (cc is)
  rest_is place members None items is =
      let same : place ∷ rest_of members ≡ items = (let f : ◌≡◌ {A = Result (List Place) Gap} (Ok (place ∷ rest_of members)) (Ok items) = is in cc f) in
      (refl, sym same)

  by_size : (size : ℕ) (members : List Member) (place : Place) (test : Bool) → gap_of size members ≡ None → place.len == size ≡ test
      → joined_by place members (gap_of place.len members) ≡ cond test (Ok (place ∷ rest_of members)) (Err Total)
  by_size size members place true fine is =
      let same : place.len ≡ size = eqb-true place.len size is in
      ap (joined_by place members) (ap (λ n. gap_of n members) same ∙ fine)
  by_size size members place false fine is =
      ap (joined_by place members) (gap_apart size place.len members fine (eqb-false place.len size is))

  -- what joins to one first segment joins to each of its series
  pub series_joins : (segment : ℕ) (first : PlacedRecord) (items : List Place) → BeginsSeries all segment first.head → joined_places all first ≡ Ok items
      → (r : PlacedRecord) → BeginsSeries all segment r.head → joined_places all r ≡ joined_like first.place.len (drop 1 items) r.place
  series_joins segment first items is whole r other =
      let members : List Member = series_of first.head.id (map piece_placed all) in
      let found = rest_is first.place members (gap_of first.place.len members) items (sym (first_is first segment is) ∙ whole) in
      let one : r.head.id ≡ first.head.id = same_id (map piece_placed all) r.head.id first.head.id segment other.1 is.1 in
      let tail : rest_of members ≡ drop 1 items = sym (ap (drop 1) found.1) in
      first_is r segment other
      ∙ (ap (λ (id : Option (List ℕ)). joined_by r.place (series_of id (map piece_placed all)) (gap_of r.place.len (series_of id (map piece_placed all)))) one
      ∙ (by_size first.place.len members r.place (r.place.len == first.place.len) found.0 refl
      ∙ ap (λ (l : List Place). joined_like first.place.len l r.place) tail))

  pub series_made : (segment : ℕ) (first : PlacedRecord) (items : List Place) (rest : Extent) → BeginsSeries all segment first.head → joined_places all first ≡ Ok items → IsExtentOf (drop 1 items) rest
      → JoinsLike all segment first.place.len items rest
  series_made segment first items rest is whole extent =
      let members : List Member = series_of first.head.id (map piece_placed all) in
      let found = rest_is first.place members (gap_of first.place.len members) items (sym (first_is first segment is) ∙ whole) in
      record {
        some = (let e : length items ≡ suc (length (rest_of members)) = ap length found.1 in omega (arith, e));
        joins = series_joins segment first items is whole;
        extent = extent;
      }

  like_same : (size : ℕ) (rest : List Place) (place : Place) → size ≡ place.len → joined_like size rest place ≡ Ok (place ∷ rest)
  like_same size rest place same = by_test (place.len == size) refl
    where
      by_test : (test : Bool) → place.len == size ≡ test → cond test (Ok (place ∷ rest)) (Err Total) ≡ Ok (place ∷ rest)
      by_test true is = refl
      by_test false is = absurd (eqb-false place.len size is (sym same))

  like_other : (size : ℕ) (rest : List Place) (place : Place) → size ≢ place.len → joined_like size rest place ≡ Err Total
  like_other size rest place other = by_test (place.len == size) refl
    where
      by_test : (test : Bool) → place.len == size ≡ test → cond test (Ok (place ∷ rest)) (Err Total) ≡ Err Total
      by_test true is = absurd (other (sym (eqb-true place.len size is)))
      by_test false is = refl

  -- the places of a series that is known, with another first block
  pub joined_again : {A : Type 0} (r : PlacedRecord) (segment size : ℕ) (place : Place) (old : List Place) (rest : Extent) (joined : Joined A) → r.place ≡ place → BeginsSeries all segment r.head
      → JoinsLike all segment size old rest → size ≡ place.len → joined.places.items ≡ place ∷ drop 1 old
      → joined.shared ≡ Some (record { segment = segment; size = place.len; rest = rest }) → IsJoinedOnce all r (Ok joined)
  joined_again {A} r segment size place old rest joined at first is same items shared =
      let has : joined_places all r ≡ Ok (place ∷ drop 1 old) =
      is.joins r first ∙ (ap (joined_like size (drop 1 old)) at ∙ like_same size (drop 1 old) place same) in
      let tail : drop 1 joined.places.items ≡ drop 1 old = ap (drop 1) items in
      let it : IsSharedFrom all r (record { segment = segment; size = place.len; rest = rest }) joined.places.items = (
        first,
        record {
          some = (let e : length joined.places.items ≡ suc (length (drop 1 old)) = ap length items in omega (arith, e));
          joins = λ other begins. is.joins other begins
              ∙ (ap (λ (n : ℕ). joined_like n (drop 1 old) other.place) same ∙ ap (λ (l : List Place). joined_like place.len l other.place) (sym tail));
          extent = subst (λ (l : List Place). IsExtentOf l rest) (sym tail) is.extent;
        },
      ) in
      (has ∙ ap Ok (sym items), by_shared joined.shared shared it)
    where
      by_shared : (o : Option Shared) → o ≡ Some (record { segment = segment; size = place.len; rest = rest })
          → IsSharedFrom all r (record { segment = segment; size = place.len; rest = rest }) joined.places.items → IsSharedBy all r o joined.places.items
      by_shared None e it = absurd (cc e)
      by_shared (Some s) e it =
          let same : s ≡ record { segment = segment; size = place.len; rest = rest } = cc e in
          subst (λ (x : Shared). IsSharedFrom all r x joined.places.items) (sym same) it

  -- it doesn't join after a first segment of another length
  pub joined_other : {A : Type 0} (r : PlacedRecord) (segment : ℕ) (parts : Parts) (table : BTreeMap ℕ (KnownSeries A)) → AreSeries parts table → parts ≡ kept_in all
      → BeginsSeries all segment r.head → HasOtherLength table segment r.place.len → joined_places all r ≡ Err Total
  joined_other r segment parts table right are first (known, there, other) =
      (right all are segment known there).joins r first ∙ like_other known.size (drop 1 known.places.items) r.place other

-- ---- the table

pub series_left : {A : Type 0} (parts : Parts) (old new : BTreeMap ℕ (KnownSeries A)) → AreSeries parts old
    → ((s : ℕ) → IfSome (series_at new s) (λ known. series_at old s ≡ Some known)) → AreSeries parts new
series_left {A} parts old new right left all are s known there =
    right all are s known (subst (λ (o : Option (KnownSeries A)). IfSome o (λ k. series_at old s ≡ Some k)) there (left s))

itself : {X : Type 0} (o : Option X) → IfSome o (λ x. o ≡ Some x)
itself None = tt
itself (Some x) = refl

pub same_left : {A : Type 0} (table : BTreeMap ℕ (KnownSeries A)) (s : ℕ) → IfSome (series_at table s) (λ known. series_at table s ≡ Some known)
same_left table s = itself (series_at table s)

pub removed_left : {A : Type 0} (old new : BTreeMap ℕ (KnownSeries A)) (segment : ℕ) → Updates nat_cmp old new segment None
    → (s : ℕ) → IfSome (series_at new s) (λ known. series_at old s ≡ Some known)
removed_left {A} old new segment updates s = by_test (is_at (nat_cmp segment) s) (updates.0 s)
  where
    by_test : (here : Bool) → series_at new s ≡ cond here None (series_at old s) → IfSome (series_at new s) (λ known. series_at old s ≡ Some known)
    by_test true is = subst (λ (o : Option (KnownSeries A)). IfSome o (λ k. series_at old s ≡ Some k)) (sym is) tt
    by_test false is = subst (λ (o : Option (KnownSeries A)). IfSome o (λ k. series_at old s ≡ Some k)) (sym is) (itself (series_at old s))

pub size_is : {A : Type 0} (o : Option (KnownSeries A)) (size : ℕ) → Some size ≡ option_map (λ (k : KnownSeries A). k.size) o
    → IfSome o (λ k. (o ≡ Some k) × (k.size ≡ size))
size_is None size is = tt
size_is (Some k) size is = (refl, (let e : size ≡ k.size = cc is in sym e))

pub taken_is : {A : Type 0} (table : BTreeMap ℕ (KnownSeries A)) (segment len : ℕ) (o : Option (KnownSeries A)) (known : KnownSeries A) → o ≡ Some known
    → IfSome o (λ k. (series_at table segment ≡ Some k) × (k.size ≡ len)) → (series_at table segment ≡ Some known) × (known.size ≡ len)
taken_is {A} table segment len o known is has = subst (λ (a : Option (KnownSeries A)). IfSome a (λ k. (series_at table segment ≡ Some k) × (k.size ≡ len))) is has

pub other_size : {A : Type 0} (table : BTreeMap ℕ (KnownSeries A)) (segment size len : ℕ) → Some size ≡ option_map (λ (k : KnownSeries A). k.size) (series_at table segment) → size ≢ len
    → HasOtherLength table segment len
other_size {A} table segment size len is other = by_known (series_at table segment) refl is
  where
    by_known : (o : Option (KnownSeries A)) → series_at table segment ≡ o → Some size ≡ option_map (λ (k : KnownSeries A). k.size) o → HasOtherLength table segment len
    by_known None e f = absurd (cc f)
    by_known (Some k) e f = (k, e, λ same. other ((let x : size ≡ k.size = cc f in x) ∙ same))

-- what a series is after it is kept
abbrev Kept : {A : Type 0} → BTreeMap ℕ (KnownSeries A) → Shared → List Place → ℕ → KnownSeries A → Type 0
Kept {A} old shared items s known = (series_at old s ≡ Some known)
    ⊎ ((s ≡ shared.segment) × (known.size ≡ shared.size) × (known.rest ≡ shared.rest) × (known.places.items ≡ items))

pub unchanged_kept : {A : Type 0} (old new : BTreeMap ℕ (KnownSeries A)) (shared : Shared) (items : List Place) → IsUnchanged old new
    → (s : ℕ) → IfSome (series_at new s) (Kept old shared items s)
unchanged_kept {A} old new shared items same s =
    by_old (series_at new s) (ap (lookup (is_at (nat_cmp s))) same)
  where
    by_old : (o : Option (KnownSeries A)) → o ≡ series_at old s → IfSome o (Kept old shared items s)
    by_old None e = tt
    by_old (Some k) e = inl (sym e)

pub updated_kept : {A : Type 0} (old new : BTreeMap ℕ (KnownSeries A)) (shared : Shared) (items : List Place) (it : KnownSeries A)
    → it.size ≡ shared.size → it.rest ≡ shared.rest → it.places.items ≡ items → Updates nat_cmp old new shared.segment (Some it)
    → (s : ℕ) → IfSome (series_at new s) (Kept old shared items s)
updated_kept {A} old new shared items it size rest places updates s = by_test (is_at (nat_cmp shared.segment) s) refl (updates.0 s)
  where
    by_old : (o : Option (KnownSeries A)) → o ≡ series_at old s → IfSome o (Kept old shared items s)
    by_old None e = tt
    by_old (Some k) e = inl (sym e)

    by_test : (here : Bool) → is_at (nat_cmp shared.segment) s ≡ here → series_at new s ≡ cond here (Some it) (series_at old s)
        → IfSome (series_at new s) (Kept old shared items s)
    by_test true at is =
        let same : shared.segment ≡ s = exact_unsigned shared.segment s ((Equal-is (nat_cmp shared.segment s)).0 at) in
        subst (λ (o : Option (KnownSeries A)). IfSome o (Kept old shared items s)) (sym is) (inr (sym same, size, rest, places))
    by_test false at is = by_old (series_at new s) is

pub kept_series : {A : Type 0} (parts : Parts) (old new : BTreeMap ℕ (KnownSeries A)) (shared : Shared) (items : List Place) → AreSeries parts old
    → ((all : List PlacedRecord) → parts ≡ kept_in all → JoinsLike all shared.segment shared.size items shared.rest)
    → ((s : ℕ) → IfSome (series_at new s) (Kept old shared items s)) → AreSeries parts new
kept_series {A} parts old new shared items right series kept all are s known there =
    elim (subst (λ (o : Option (KnownSeries A)). IfSome o (Kept old shared items s)) there (kept s)) [
      | inl before ↦ right all are s known before
      | inr (at, size, rest, places) ↦
          subst (λ (n : ℕ). JoinsLike all n known.size known.places.items known.rest) (sym at)
          (subst (λ (n : ℕ). JoinsLike all shared.segment n known.places.items known.rest) (sym size)
          (subst (λ (l : List Place). JoinsLike all shared.segment shared.size l known.rest) (sym places)
          (subst (λ (e : Extent). JoinsLike all shared.segment shared.size items e) (sym rest) (series all are))))
    ]

-- ---- a join, by what it is

pub gap_joined : {A : Type 0} (r : Result (Joined A) JoinFault) (gap : Gap) (all : List PlacedRecord) (p : PlacedRecord) → r ≡ Err (IsGap gap) → IsJoinedOnce all p r → joined_places all p ≡ Err gap
gap_joined {A} r gap all p is join = let P : Result (Joined A) JoinFault → Type 0 = λ x. IsJoinedOnce all p x in subst P is join

pub joined_as : {A : Type 0} (r : Result (Joined A) JoinFault) (joined : Joined A) (all : List PlacedRecord) (p : PlacedRecord) → r ≡ Ok joined → IsJoinedOnce all p r
    → (joined_places all p ≡ Ok joined.places.items) × IsSharedBy all p joined.shared joined.places.items
joined_as {A} r joined all p is join = let P : Result (Joined A) JoinFault → Type 0 = λ x. IsJoinedOnce all p x in subst P is join

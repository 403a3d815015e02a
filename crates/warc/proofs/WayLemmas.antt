-- The way from referent to referent among some of the records: that among all, where these lead to no other.
use Rattle.std.proofs.Common.{◌≡◌, ◌≢◌, ◌⊎◌, inl, inr, ℕ, zero, suc, ◌+◌, ◌<◌, ◌≤◌, Bool, true, false, not, ◌&&◌, ◌||◌, cond, List, [], ◌∷◌, length, get_or, Option, Some, None, Result, Ok, Err, slice_get, refl, sym, ◌∙◌, ap, subst, arith, if◌then◌else◌}
use Rattle.std.specs.Prelude.{Contains, nat_lt, ok_or, option_and_then}
use Rattle.std.specs.List.{position, position_or_len}
use Rattle.std.specs.Option.{option_map_or, option_or}
use Rattle.std.specs.Result.{result_ok}
use Rattle.std.proofs.lemmas.Bool.{cases_Bool, cases_lt}
use Rattle.std.proofs.lemmas.Bool.Decides.{nat_tests}
use Rattle.std.proofs.lemmas.List.Quantifiers.{position-Some}
use Rattle.std.proofs.lemmas.List.Sums.{position_or_len_is}
use Rattle.std.proofs.lemmas.Option.{get_or_from_slice_get, option_and_then_some, slice_get_within, slice_get-get_or}
use Rattle.warc_value.specs.Dates.{Instant}
use Rattle.warc_record.specs.Kinds.{is_revisit}
use Rattle.warc_index.specs.Captures.{Indexed, IsLatest, LatestIsLast, is_earlier, is_later, latest}
use Rattle.warc_index.specs.Referents.{ChainLoops, by_key, by_pair, by_payload, has_key, is_candidate, is_of_pair, is_revisit_at, names_something, next_of, ok_then, origin_of, origin_within, record_named, referent_at, referent_of}
use Rattle.warc_index.specs.Walks.{ComesBack, walk}
use Rattle.warc_index.specs.declared.unfound.Unfound.{Unfound}
use Rattle.warc_index.specs.declared.unfound.Unfound.TheVariants.{NoCapture, NotYet, UnknownProfile, NoReference, Unresolved, Loop}
use Rattle.warc.specs.ClosedLaws.{IsSameRecord}
use Rattle.warc_rewrite.specs.Selecting.{ArePositions, at_positions}
use Rattle.warc.proofs.PartLemmas.{at_below, came_from, contained, got, is_there, place_of, rises, rises_back, same_at, same_place}

-- ---- the first that passes

less : (a b : ℕ) → a < b → nat_lt a b ≡ true
less a b h = grind (arith, nat_tests)

not_less : (a b : ℕ) → b ≤ a → nat_lt a b ≡ false
not_less a b h = grind (arith, nat_tests)

first_by : {X : Type 0} (t : X → Bool) (x : X) (xs : List X) (k : ℕ) (b : Bool) → t x ≡ b → (position_or_len t xs ≤ k) → position_or_len t (x ∷ xs) ≤ suc k
first_by {X} t x xs k true is low = let z : position_or_len t (x ∷ xs) ≡ 0 = ap (λ b. cond (not b) (1 + position_or_len t xs) 0) is in omega (arith, z)
first_by {X} t x xs k false is low = let z : position_or_len t (x ∷ xs) ≡ 1 + position_or_len t xs = ap (λ b. cond (not b) (1 + position_or_len t xs) 0) is in omega (arith, z, low)

first_up_to : {X : Type 0} (t : X → Bool) (xs : List X) (k : ℕ) (x : X) → slice_get xs k ≡ Some x → t x ≡ true → position_or_len t xs ≤ k
first_up_to {X} t [] k x at hit = absurd (cc)
first_up_to {X} t (y ∷ xs) zero x at hit =
    let same : y ≡ x = (cc) in
    let z : position_or_len t (y ∷ xs) ≡ 0 = ap (λ b. cond (not b) (1 + position_or_len t xs) 0) (ap t same ∙ hit) in
    omega (arith, z)
first_up_to {X} t (y ∷ xs) (suc k) x at hit = first_by t y xs k (t y) refl (first_up_to t xs k x at hit)

none_passes : {X : Type 0} (t : X → Bool) (xs : List X) → position t xs ≡ None → (k : ℕ) (x : X) → slice_get xs k ≡ Some x → t x ≡ false
none_passes {X} t xs is k x at = elim (cases_Bool (t x)) [
  | inr miss ↦ miss
  | inl hit ↦
      let first : position_or_len t xs ≤ k = first_up_to t xs k x at hit in
      let within : k < length xs = slice_get_within xs k x at in
      let found : position t xs ≡ Some (position_or_len t xs) =
      ap (λ b. cond b (Some (position_or_len t xs)) None) (less (position_or_len t xs) (length xs) (omega (arith, first, within))) in
      absurd (cc)
]

found_at : {X : Type 0} (t : X → Bool) (xs : List X) (k : ℕ) (x : X) → slice_get xs k ≡ Some x → t x ≡ true
    → ((j : ℕ) (y : X) → j < k → slice_get xs j ≡ Some y → t y ≡ false) → position t xs ≡ Some k
found_at {X} t xs k x at hit miss =
    let lt : k < length xs = slice_get_within xs k x at in
    let first : position_or_len t xs ≡ k = position_or_len_is t xs k x (omega (arith, lt))
    (λ j h. miss j (get_or xs j x) h (slice_get-get_or xs j x (omega (arith, h, lt))))
    (λ h. ap t (get_or_from_slice_get xs k x x at) ∙ hit) in
    ap (λ n. cond (nat_lt n (length xs)) (Some n) None) first ∙ ap (λ b. cond b (Some k) None) (less k (length xs) lt)

found_none : {X : Type 0} (t : X → Bool) (xs : List X) → ((j : ℕ) (y : X) → slice_get xs j ≡ Some y → t y ≡ false) → position t xs ≡ None
found_none {X} t [] miss = refl
found_none {X} t (x ∷ xs) miss =
    let n : ℕ = length (x ∷ xs) in
    let first : position_or_len t (x ∷ xs) ≡ n = position_or_len_is t (x ∷ xs) n x (omega arith)
    (λ j h. miss j (get_or (x ∷ xs) j x) (slice_get-get_or (x ∷ xs) j x h))
    (λ h. absurd (omega (arith, h))) in
    ap (λ m. cond (nat_lt m n) (Some m) None) first ∙ ap (λ b. cond b (Some n) None) (not_less n n (omega arith))

-- ---- what is found among all, and among some

-- where nothing is found among all, nothing is; what is found, and is one of these, is found at its place
pub record Goes (ps : List ℕ) (a b : Option ℕ) : Type 0 where
  pub none : a ≡ None → b ≡ None
  pub found : (i p : ℕ) → a ≡ Some p → IsSameRecord ps i p → b ≡ Some i

pub record GoesTo (ps : List ℕ) (a b : Result ℕ Unfound) : Type 0 where
  pub none : (why : Unfound) → a ≡ Err why → b ≡ Err why
  pub found : (i p : ℕ) → a ≡ Ok p → IsSameRecord ps i p → b ≡ Ok i

nothing_goes : (ps : List ℕ) → Goes ps None None
nothing_goes ps = record { none = λ e. refl; found = λ i p e at. absurd (cc) }

fault_goes : (ps : List ℕ) (why : Unfound) → GoesTo ps (Err why) (Err why)
fault_goes ps why = record { none = λ other e. e; found = λ i p e at. absurd (cc) }

or_goes : (ps : List ℕ) (a b c d : Option ℕ) → Goes ps a b → Goes ps c d → Goes ps (option_or a c) (option_or b d)
or_goes ps None b c d first second =
    let P : Option ℕ → Type 0 = λ o. Goes ps c (option_or o d) in subst P (sym (first.none refl)) second
or_goes ps (Some q) b c d first second = record {
  none = λ e. absurd (cc);
  found = λ i p e at. ap (λ o. option_or o d) (first.found i p e at);
}

ok_or_goes : (ps : List ℕ) (a b : Option ℕ) (why : Unfound) → Goes ps a b → GoesTo ps (ok_or a why) (ok_or b why)
ok_or_goes ps None b why goes =
    let P : Option ℕ → Type 0 = λ o. GoesTo ps (Err why) (ok_or o why) in subst P (sym (goes.none refl)) (fault_goes ps why)
ok_or_goes ps (Some q) b why goes = record {
  none = λ other e. absurd (cc);
  found = λ i p e at. (let same : q ≡ p = (cc) in ap (λ o. ok_or o why) (goes.found i p (ap Some same) at));
}

by_table : (ps : List ℕ) (known names : Bool) (a b c d : Result ℕ Unfound) → GoesTo ps a b → GoesTo ps c d
    → GoesTo ps (if not known then Err UnknownProfile else if names then a else c) (if not known then Err UnknownProfile else if names then b else d)
by_table ps false names a b c d first second = fault_goes ps UnknownProfile
by_table ps true true a b c d first second = first
by_table ps true false a b c d first second = second

-- ---- steps in a list of records

-- what isn't a loop stays with more steps
one_more : (k : ℕ) (all : List Indexed) (p : ℕ) (x : Result ℕ Unfound) → x ≢ Err Loop → origin_within k all p ≡ x → origin_within (suc k) all p ≡ x
one_more zero all p x differs is = by_kind (is_revisit_at all p) is
  where
    by_kind : (b : Bool) → (if b then Err Loop else Ok p) ≡ x → (if b then ok_then (origin_within zero all) (referent_at all (slice_get all p)) else Ok p) ≡ x
    by_kind true e = absurd (differs (sym e))
    by_kind false e = e
one_more (suc k) all p x differs is = by_kind (λ q e. one_more k all q x differs e) (is_revisit_at all p) (referent_at all (slice_get all p)) is
  where
    by_kind : ((q : ℕ) → origin_within k all q ≡ x → origin_within (suc k) all q ≡ x) → (b : Bool) (next : Result ℕ Unfound)
        → (if b then ok_then (origin_within k all) next else Ok p) ≡ x → (if b then ok_then (origin_within (suc k) all) next else Ok p) ≡ x
    by_kind again false next e = e
    by_kind again true (Err why) e = e
    by_kind again true (Ok q) e = again q e

more : (d k : ℕ) (all : List Indexed) (p : ℕ) (x : Result ℕ Unfound) → x ≢ Err Loop → origin_within k all p ≡ x → origin_within (d + k) all p ≡ x
more zero k all p x differs is = let z : 0 + k ≡ k = omega arith in ap (λ n. origin_within n all p) z ∙ is
more (suc d) k all p x differs is =
    let z : suc d + k ≡ suc (d + k) = omega arith in
    ap (λ n. origin_within n all p) z ∙ one_more (d + k) all p x differs (more d k all p x differs is)

loop_or_other : (x : Result ℕ Unfound) → (x ≡ Err Loop) ⊎ (x ≢ Err Loop)
loop_or_other (Ok p) = inr (λ e. cc)
loop_or_other (Err NoCapture) = inr (λ e. cc)
loop_or_other (Err NotYet) = inr (λ e. cc)
loop_or_other (Err UnknownProfile) = inr (λ e. cc)
loop_or_other (Err NoReference) = inr (λ e. cc)
loop_or_other (Err Unresolved) = inr (λ e. cc)
loop_or_other (Err Loop) = inl refl

-- both ways come to the same record, or to the same reason
abbrev pub AreSame : List ℕ → Result ℕ Unfound → Result ℕ Unfound → Type 0
AreSame ps (Ok p) (Ok i) = IsSameRecord ps i p
AreSame ps (Err why) (Err other) = why ≡ other
AreSame ps (Ok p) (Err other) = ⊥
AreSame ps (Err why) (Ok i) = ⊥

-- ---- some of the records

module _ (late : LatestIsLast) (all : List Indexed) (ps : List ℕ) (are : ArePositions (length all) ps) where
  abbrev pub part : List Indexed
  part = at_positions all ps

  there : (i p : ℕ) → IsSameRecord ps i p → slice_get part i ≡ slice_get all p
  there i p at = is_there all ps are.below i p at

  from : (i : ℕ) (r : Indexed) → slice_get part i ≡ Some r → (p : ℕ) × IsSameRecord ps i p × (slice_get all p ≡ Some r)
  from i r is = came_from all ps are.below i r is

  -- the position of a record of all
  pub below : (i p : ℕ) → IsSameRecord ps i p → p < length all
  below i p at =
      let lt : get_or ps i 0 < length all = are.below i 0 (at_below ps i p at) in
      let same : get_or ps i 0 ≡ p = get_or_from_slice_get ps i p 0 at in
      omega (arith, lt, same)

  pub place_below : (i p : ℕ) → IsSameRecord ps i p → i < length part
  place_below i p at =
      let (r, is) = got all p (below i p at) in slice_get_within part i r (there i p at ∙ is)

  first_goes : (t : Indexed → Bool) → Goes ps (position t all) (position t part)
  first_goes t = record {
    none = λ e. found_none t part (λ j r is. (let (q, at, here) = from j r is in none_passes t all e q r here));
    found = λ i p e at. (
        let (r, here) = got all p (below i p at) in
        let (within, hit, first) = position-Some t all p r e in
        let passes : t r ≡ true = ap t (sym (get_or_from_slice_get all p r r here)) ∙ hit in
        found_at t part i r (there i p at ∙ here) passes
        (λ j s before is. (
        let (q, at_q, here_q) = from j s is in
        let earlier : q < p = rises ps are.ascending j i q p at_q at before in
        ap t (sym (get_or_from_slice_get all q s r here_q)) ∙ first q earlier)));
  }

  later_same : (i j p q : ℕ) (a b : Indexed) → IsSameRecord ps i p → IsSameRecord ps j q → is_later (q, b) (p, a) ≡ is_later (j, b) (i, a)
  later_same i j p q a b at_p at_q =
      let same : nat_lt p q ≡ nat_lt i j = elim (cases_lt i j) [
        | inl before ↦ less p q (rises ps are.ascending i j p q at_p at_q before) ∙ sym (less i j before)
        | inr following ↦ elim (cases_lt p q) [
          | inl up ↦ (let before : i < j = rises_back ps are.ascending i j p q at_p at_q up in absurd (omega (arith, before, following)))
          | inr down ↦ not_less p q down ∙ sym (not_less i j following)
        ]
      ] in
      ap (λ c. is_earlier a.instant b.instant || (not (is_earlier b.instant a.instant) && c)) same

  latest_goes : (t : Indexed → Bool) → Goes ps (latest t all) (latest t part)
  latest_goes t = record {
    none = λ e. (late t part).1.1 (λ j r is. (let (q, at, here) = from j r is in (late t all).1.0 e q r here));
    found = λ i p e at. (
        let is : IsLatest t all p = ((late t all).0 p).0 e in
        ((late t part).0 i).1 (record {
          it = is.it;
          is_present = there i p at ∙ is.is_present;
          passes = is.passes;
          last = λ j r at_j hit. (let (q, at_q, here) = from j r at_j in
              sym (later_same i j p q is.it r at at_q) ∙ is.last q r here hit);
        }));
  }

  id_goes : (id : Option (List ℕ)) → Goes ps (option_and_then (by_key all) id) (option_and_then (by_key part) id)
  id_goes None = nothing_goes ps
  id_goes (Some key) = first_goes (has_key key)

  pair_goes : (pair : Option (List ℕ × Instant)) → Goes ps (option_and_then (by_pair all) pair) (option_and_then (by_pair part) pair)
  pair_goes None = nothing_goes ps
  pair_goes (Some pair) = first_goes (is_of_pair pair)

  referent_goes : (r : Indexed) → GoesTo ps (referent_of all r) (referent_of part r)
  referent_goes r =
      by_table ps r.reference.known_profile (names_something r.reference)
      (ok_or (record_named all r.reference) Unresolved) (ok_or (record_named part r.reference) Unresolved)
      (ok_or (by_payload all r) NoReference) (ok_or (by_payload part r) NoReference)
      (ok_or_goes ps (record_named all r.reference) (record_named part r.reference) Unresolved
      (or_goes ps (option_and_then (by_key all) r.reference.named_id) (option_and_then (by_key part) r.reference.named_id)
      (option_and_then (by_pair all) r.reference.named_pair) (option_and_then (by_pair part) r.reference.named_pair)
      (id_goes r.reference.named_id) (pair_goes r.reference.named_pair)))
      (ok_or_goes ps (by_payload all r) (by_payload part r) NoReference (latest_goes (is_candidate r)))

  referent_at_goes : (found : Option Indexed) → GoesTo ps (referent_at all found) (referent_at part found)
  referent_at_goes None = fault_goes ps Unresolved
  referent_at_goes (Some r) = referent_goes r

  step_goes : (i p : ℕ) → IsSameRecord ps i p → GoesTo ps (referent_at all (slice_get all p)) (referent_at part (slice_get part i))
  step_goes i p at =
      let P : Option Indexed → Type 0 = λ o. GoesTo ps (referent_at all (slice_get all p)) (referent_at part o) in
      subst P (sym (there i p at)) (referent_at_goes (slice_get all p))

  kind_same : (i p : ℕ) → IsSameRecord ps i p → is_revisit_at all p ≡ is_revisit_at part i
  kind_same i p at = ap (λ o. option_map_or (λ (r : Indexed). is_revisit r.kind) o false) (sym (there i p at))

  next_by : (b : Bool) (x y : Result ℕ Unfound) → GoesTo ps x y → Goes ps (if b then result_ok x else None) (if b then result_ok y else None)
  next_by false x y goes = nothing_goes ps
  next_by true (Err why) y goes =
      let P : Result ℕ Unfound → Type 0 = λ z. Goes ps None (result_ok z) in subst P (sym (goes.none why refl)) (nothing_goes ps)
  next_by true (Ok q) y goes = record {
    none = λ e. absurd (cc);
    found = λ i p e at. (let same : q ≡ p = (cc) in ap (λ z. result_ok z) (goes.found i p (ap Ok same) at));
  }

  next_goes : (i p : ℕ) → IsSameRecord ps i p → Goes ps (next_of all p) (next_of part i)
  next_goes i p at =
      let P : Bool → Type 0 = λ b. Goes ps (next_of all p) (if b then result_ok (referent_at part (slice_get part i)) else None) in
      subst P (kind_same i p at)
      (next_by (is_revisit_at all p) (referent_at all (slice_get all p)) (referent_at part (slice_get part i)) (step_goes i p at))

  -- ---- where each leads to one of these

  module _ (closed : (p q : ℕ) → Contains ps p → next_of all p ≡ Some q → Contains ps q) where
    kept : (i p q : ℕ) → IsSameRecord ps i p → next_of all p ≡ Some q → (j : ℕ) × IsSameRecord ps j q
    kept i p q at next = place_of ps q (closed p q (contained ps i p at) next)

    walk_goes : (k i p q : ℕ) → IsSameRecord ps i p → walk (next_of all) p k ≡ Some q
        → (j : ℕ) × IsSameRecord ps j q × (walk (next_of part) i k ≡ Some j)
    walk_goes zero i p q at is = let same : p ≡ q = (cc) in (i, subst (λ (n : ℕ). IsSameRecord ps i n) same at, refl)
    walk_goes (suc k) i p q at is =
        option_and_then_some (next_of all) (walk (next_of all) p k) q is (λ r before next. (
        let (j, at_r, w) = walk_goes k i p r at before in
        let (l, at_q) = kept j r q at_r next in
        (l, at_q, ap (option_and_then (next_of part)) w ∙ (next_goes j r at_r).found l q next at_q)))

    step_back : (j r l : ℕ) → IsSameRecord ps j r → next_of part j ≡ Some l → (q : ℕ) × IsSameRecord ps l q × (next_of all r ≡ Some q)
    step_back j r l at is = by_next (next_of all r) refl
      where
        by_next : (o : Option ℕ) → next_of all r ≡ o → (q : ℕ) × IsSameRecord ps l q × (next_of all r ≡ Some q)
        by_next None e = let gone : next_of part j ≡ None = (next_goes j r at).none e in absurd (cc)
        by_next (Some q) e =
            let (m, at_q) = kept j r q at e in
            let found : next_of part j ≡ Some m = (next_goes j r at).found m q e at_q in
            let same : m ≡ l = (cc) in
            (q, subst (λ (n : ℕ). IsSameRecord ps n q) same at_q, e)

    walk_back : (k i p j : ℕ) → IsSameRecord ps i p → walk (next_of part) i k ≡ Some j
        → (q : ℕ) × IsSameRecord ps j q × (walk (next_of all) p k ≡ Some q)
    walk_back zero i p j at is = let same : i ≡ j = (cc) in (p, subst (λ (n : ℕ). IsSameRecord ps n p) same at, refl)
    walk_back (suc k) i p j at is =
        option_and_then_some (next_of part) (walk (next_of part) i k) j is (λ l before next. (
        let (r, at_r, w) = walk_back k i p l at before in
        let (q, at_q, n) = step_back l r j at_r next in
        (q, at_q, ap (option_and_then (next_of all)) w ∙ n)))

    back_goes : (i p : ℕ) → IsSameRecord ps i p → ComesBack (next_of all) p → ComesBack (next_of part) i
    back_goes i p at back =
        let (j, at_j, first) = walk_goes back.early i p back.place at back.before in
        let (l, at_l, second) = walk_goes back.late i p back.place at back.again in
        let same : l ≡ j = same_place ps are.ascending l j back.place at_l at_j in
        record { early = back.early; late = back.late; place = j; order = back.order; before = first; again = second ∙ ap Some same }

    back_from : (i p : ℕ) → IsSameRecord ps i p → ComesBack (next_of part) i → ComesBack (next_of all) p
    back_from i p at back =
        let (q, at_q, first) = walk_back back.early i p back.place at back.before in
        let (r, at_r, second) = walk_back back.late i p back.place at back.again in
        let same : r ≡ q = same_at ps back.place r q at_r at_q in
        record { early = back.early; late = back.late; place = q; order = back.order; before = first; again = second ∙ ap Some same }

    same_fault : (x y : Result ℕ Unfound) (why : Unfound) → x ≡ Err why → y ≡ Err why → AreSame ps x y
    same_fault x y why is other = subst (λ (z : Result ℕ Unfound). AreSame ps z y) (sym is) (subst (λ (z : Result ℕ Unfound). AreSame ps (Err why) z) (sym other) refl)

    within_goes : (k i p : ℕ) → IsSameRecord ps i p → AreSame ps (origin_within k all p) (origin_within k part i)
    within_goes zero i p at =
        subst (λ (b : Bool). AreSame ps (origin_within zero all p) (if b then Err Loop else Ok i)) (kind_same i p at) (by_kind (is_revisit_at all p))
      where
        by_kind : (b : Bool) → AreSame ps (if b then Err Loop else Ok p) (if b then Err Loop else Ok i)
        by_kind true = refl
        by_kind false = at
    within_goes (suc k) i p at =
        subst (λ (b : Bool). AreSame ps (origin_within (suc k) all p) (if b then ok_then (origin_within k part) (referent_at part (slice_get part i)) else Ok i))
        (kind_same i p at)
        (by_kind (λ j q at_q. within_goes k j q at_q) (is_revisit_at all p) refl (referent_at all (slice_get all p)) refl)
      where
        by_kind : ((j q : ℕ) → IsSameRecord ps j q → AreSame ps (origin_within k all q) (origin_within k part j)) → (b : Bool) → is_revisit_at all p ≡ b
            → (x : Result ℕ Unfound) → referent_at all (slice_get all p) ≡ x
            → AreSame ps (if b then ok_then (origin_within k all) x else Ok p) (if b then ok_then (origin_within k part) (referent_at part (slice_get part i)) else Ok i)
        by_kind again false is x to = at
        by_kind again true is (Err why) to =
            let other : referent_at part (slice_get part i) ≡ Err why = (step_goes i p at).none why to in
            same_fault (Err why) (ok_then (origin_within k part) (referent_at part (slice_get part i))) why refl (ap (ok_then (origin_within k part)) other)
        by_kind again true is (Ok q) to =
            let next : next_of all p ≡ Some q = ap (λ (b : Bool). if b then result_ok (referent_at all (slice_get all p)) else None) is ∙ ap result_ok to in
            let (j, at_q) = kept i p q at next in
            let other : referent_at part (slice_get part i) ≡ Ok j = (step_goes i p at).found j q to at_q in
            subst (λ (z : Result ℕ Unfound). AreSame ps (origin_within k all q) z) (sym (ap (ok_then (origin_within k part)) other)) (again j q at_q)

    -- the origin is the same record, or is missing for the same reason
    pub origin_goes : ChainLoops → (i p : ℕ) → IsSameRecord ps i p → AreSame ps (origin_of all p) (origin_of part i)
    origin_goes chains i p at = elim (loop_or_other (origin_of part i)) [
      | inl loops ↦
          let back : ComesBack (next_of all) p = back_from i p at ((chains part i (place_below i p at)).0 loops) in
          same_fault (origin_of all p) (origin_of part i) Loop ((chains all p (below i p at)).1 back) loops
      | inr other ↦
          let never : origin_of all p ≢ Err Loop = λ e. (
          let back : ComesBack (next_of part) i = back_goes i p at ((chains all p (below i p at)).0 e) in
          other ((chains part i (place_below i p at)).1 back)) in
          let whole : origin_within (length part + length all) all p ≡ origin_of all p = more (length part) (length all) all p (origin_of all p) never refl in
          let some : origin_within (length part + length all) part i ≡ origin_of part i =
          (let z : length part + length all ≡ length all + length part = omega arith in
          ap (λ n. origin_within n part i) z ∙ more (length all) (length part) part i (origin_of part i) other refl) in
          subst (λ (x : Result ℕ Unfound). AreSame ps x (origin_of part i)) whole
          (subst (λ (x : Result ℕ Unfound). AreSame ps (origin_within (length part + length all) all p) x) some (within_goes (length part + length all) i p at))
    ]

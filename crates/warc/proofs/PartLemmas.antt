-- What is at some positions of a list, and the place of each position.
use Rattle.std.proofs.Common.{◌≡◌, ◌⊎◌, inl, inr, ℕ, zero, suc, ◌+◌, ◌<◌, ◌≤◌, List, [], ◌∷◌, length, All, get_or, map, Option, Some, None, slice_get, refl, sym, ◌∙◌, ap, subst, arith}
use Rattle.std.specs.Prelude.{option_and_then, option_map, Contains}
use Rattle.std.specs.List.{cons_option, enumerate_from, filter_map}
use Rattle.std.specs.List.Sorted.{IsStrictlyIncreasing}
use Rattle.std.proofs.lemmas.Bool.{cases_eq, cases_lt, cases_order}
use Rattle.std.proofs.lemmas.List.Elements.{All-head, All-tail}
use Rattle.std.proofs.lemmas.List.Kept.{AllPairs-from_increasing}
use Rattle.std.proofs.lemmas.Option.{get_or_from_slice_get, option_and_then_some, slice_get_within, slice_get-get_or}
use Rattle.warc.specs.ClosedLaws.{IsSameRecord}
use Rattle.warc_rewrite.specs.Selecting.{at_positions}
use Rattle.warc_rewrite.proofs.SelectionLaws.{AscendFrom}

-- ---- places

pub at_below : (ps : List ℕ) (i p : ℕ) → IsSameRecord ps i p → i < length ps
at_below ps i p at = slice_get_within ps i p at

pub contained : (ps : List ℕ) (i p : ℕ) → IsSameRecord ps i p → Contains ps p
contained ps i p at = (i, at_below ps i p at, get_or_from_slice_get ps i p p at)

pub place_of : (ps : List ℕ) (p : ℕ) → Contains ps p → (i : ℕ) × IsSameRecord ps i p
place_of ps p (i, within, is) = (i, slice_get-get_or ps i p within ∙ ap Some is)

pub same_at : (ps : List ℕ) (i p q : ℕ) → IsSameRecord ps i p → IsSameRecord ps i q → p ≡ q
same_at ps i p q here there = let e : Some p ≡ Some q = sym here ∙ there in (cc)

module _ (ps : List ℕ) (up : IsStrictlyIncreasing ps) where
  pub rises : (i j p q : ℕ) → IsSameRecord ps i p → IsSameRecord ps j q → i < j → p < q
  rises i j p q here there less =
      let below : get_or ps i 0 < get_or ps j 0 = AllPairs-from_increasing ps up i j 0 less (at_below ps j q there) in
      let first : get_or ps i 0 ≡ p = get_or_from_slice_get ps i p 0 here in
      let second : get_or ps j 0 ≡ q = get_or_from_slice_get ps j q 0 there in
      omega (arith, below, first, second)

  pub same_place : (i j p : ℕ) → IsSameRecord ps i p → IsSameRecord ps j p → i ≡ j
  same_place i j p here there = elim (cases_order i j) [
    | inl same ↦ same
    | inr (inl less) ↦ let past : p < p = rises i j p p here there less in absurd (omega (arith, past))
    | inr (inr more) ↦ let past : p < p = rises j i p p there here more in absurd (omega (arith, past))
  ]

  pub rises_back : (i j p q : ℕ) → IsSameRecord ps i p → IsSameRecord ps j q → p < q → i < j
  rises_back i j p q here there less = elim (cases_order i j) [
    | inl same ↦ let e : p ≡ q = same_at ps j p q (subst (λ (k : ℕ). IsSameRecord ps k p) same here) there in absurd (omega (arith, e, less))
    | inr (inl before) ↦ before
    | inr (inr following) ↦ let past : q < p = rises j i q p there here following in absurd (omega (arith, past, less))
  ]

-- ---- what is there

pub got : {X : Type 0} (xs : List X) (p : ℕ) → p < length xs → (x : X) × (slice_get xs p ≡ Some x)
got {X} [] p within = absurd (omega (arith, within))
got {X} (x ∷ xs) zero within = (x, refl)
got {X} (x ∷ xs) (suc p) within = got xs p (omega (arith, within))

pub is_slot_at : {X : Type 0} (xs : List X) (ps : List ℕ) → All (λ p. p < length xs) ps → (i : ℕ)
    → slice_get (at_positions xs ps) i ≡ option_and_then (slice_get xs) (slice_get ps i)
is_slot_at {X} xs [] below i = refl
is_slot_at {X} xs (p ∷ ps) below i = by_place (is_slot_at xs ps (All-tail (λ k. k < length xs) p ps below)) i
  where
    one : (x : X) × (slice_get xs p ≡ Some x)
    one = got xs p (All-head (λ k. k < length xs) p ps below)

    whole : at_positions xs (p ∷ ps) ≡ one.0 ∷ at_positions xs ps
    whole = ap (λ o. cons_option o (at_positions xs ps)) one.1

    by_place : ((k : ℕ) → slice_get (at_positions xs ps) k ≡ option_and_then (slice_get xs) (slice_get ps k)) → (k : ℕ)
        → slice_get (at_positions xs (p ∷ ps)) k ≡ option_and_then (slice_get xs) (slice_get (p ∷ ps) k)
    by_place rest zero = ap (λ l. slice_get l 0) whole ∙ sym one.1
    by_place rest (suc k) = ap (λ l. slice_get l (suc k)) whole ∙ rest k

-- the part has at a place what the whole has at the position of that place
pub is_there : {X : Type 0} (xs : List X) (ps : List ℕ) → All (λ p. p < length xs) ps → (i p : ℕ) → IsSameRecord ps i p
    → slice_get (at_positions xs ps) i ≡ slice_get xs p
is_there {X} xs ps below i p at = is_slot_at xs ps below i ∙ ap (option_and_then (slice_get xs)) at

-- what is in the part is in the whole
pub came_from : {X : Type 0} (xs : List X) (ps : List ℕ) → All (λ p. p < length xs) ps → (i : ℕ) (x : X)
    → slice_get (at_positions xs ps) i ≡ Some x → (p : ℕ) × IsSameRecord ps i p × (slice_get xs p ≡ Some x)
came_from {X} xs ps below i x is =
    option_and_then_some (slice_get xs) (slice_get ps i) x (sym (is_slot_at xs ps below i) ∙ is) (λ p at there. (p, at, there))

-- ---- what a list gives by place, and what some of it gives

not_before : (n : ℕ) (ps : List ℕ) → AscendFrom n ps → (i p : ℕ) → IsSameRecord ps i p → n ≤ p
not_before n [] ascend i p at = absurd (cc)
not_before n (q ∷ ps) ascend zero p at = let same : q ≡ p = (cc) in omega (arith, same, ascend.0)
not_before n (q ∷ ps) ascend (suc i) p at =
    let more : q + 1 ≤ p = not_before (q + 1) ps ascend.1 i p at in omega (arith, more, ascend.0)

rest_at : (q : ℕ) (ps : List ℕ) (p : ℕ) → (p ≡ q → ⊥) → Contains (q ∷ ps) p → Contains ps p
rest_at q ps p other (zero, within, is) = absurd (other (sym is))
rest_at q ps p other (suc i, within, is) = (i, omega (arith, within), is)

map_cons : {X Y : Type 0} (g : X → Y) (o : Option X) (xs : List X) → cons_option (option_map g o) (map g xs) ≡ map g (cons_option o xs)
map_cons {X} {Y} g None xs = refl
map_cons {X} {Y} g (Some x) xs = refl

none_by : {M : Type 0} (o : Option M) → ((m : M) → o ≡ Some m → ⊥) → o ≡ None
none_by {M} None never = refl
none_by {M} (Some m) never = absurd (never m refl)

module _ {X M : Type 0} (f : ℕ × X → Option M) (g : M → M) (full : List X) where
  -- f gives of the record at a position what it gives of the same at its place, but for g
  abbrev pub Moves : ℕ → List ℕ → Type 0
  Moves k ps = (i p : ℕ) (x : X) → IsSameRecord ps i p → f (p, x) ≡ option_map g (f (k + i, x))

  -- where f gives anything, the position is one of these
  abbrev pub Reaches : ℕ → List X → List ℕ → Type 0
  Reaches n xs ps = (j : ℕ) (x : X) (m : M) → slice_get xs j ≡ Some x → f (n + j, x) ≡ Some m → Contains ps (n + j)

  abbrev Same : ℕ → List X → List ℕ → ℕ → Type 0
  Same n xs ps k = filter_map f (enumerate_from n xs) ≡ map g (filter_map f (enumerate_from k (at_positions full ps)))

  passed : (x : X) (xs : List X) (ps : List ℕ) (n k : ℕ) → AscendFrom (n + 1) ps → Reaches n (x ∷ xs) ps → Same (n + 1) xs ps k → Same n (x ∷ xs) ps k
  passed x xs ps n k ascend reaches rest =
      let gone : f (n, x) ≡ None = none_by (f (n, x)) (λ m is. (
      let zero_more : n + 0 ≡ n = omega arith in
      let in_ = reaches 0 x m refl (ap (λ at. f (at, x)) zero_more ∙ is) in
      let (i, at) = place_of ps (n + 0) in_ in
      let le : n + 1 ≤ n + 0 = not_before (n + 1) ps ascend i (n + 0) at in
      omega (arith, le))) in
      ap (λ o. cons_option o (filter_map f (enumerate_from (n + 1) xs))) gone ∙ rest

  taken : (x : X) (xs : List X) (p : ℕ) (ps : List ℕ) (n k : ℕ) → p ≡ n → slice_get full n ≡ Some x → Moves k (p ∷ ps) → Same (n + 1) xs ps (k + 1) → Same n (x ∷ xs) (p ∷ ps) k
  taken x xs p ps n k here there moves rest =
      let none_more : k + 0 ≡ k = omega arith in
      let one : f (n, x) ≡ option_map g (f (k, x)) =
      ap (λ at. f (at, x)) (sym here) ∙ moves 0 p x refl ∙ ap (λ at. option_map g (f (at, x))) none_more in
      let whole : at_positions full (p ∷ ps) ≡ x ∷ at_positions full ps =
      ap (λ o. cons_option o (at_positions full ps)) (ap (slice_get full) here ∙ there) in
      ap (λ o. cons_option o (filter_map f (enumerate_from (n + 1) xs))) one
      ∙ ap (λ l. cons_option (option_map g (f (k, x))) l) rest
      ∙ map_cons g (f (k, x)) (filter_map f (enumerate_from (k + 1) (at_positions full ps)))
      ∙ ap (λ l. map g (filter_map f (enumerate_from k l))) (sym whole)

  shifted : (y : X) (ys : List X) (m : ℕ) → ((j : ℕ) → slice_get full (m + j) ≡ slice_get (y ∷ ys) j) → (j : ℕ) → slice_get full (m + 1 + j) ≡ slice_get ys j
  shifted y ys m at j = let z : m + 1 + j ≡ m + suc j = omega arith in ap (slice_get full) z ∙ at (suc j)

  later : (y : X) (ys : List X) (qs : List ℕ) (m : ℕ) → Reaches m (y ∷ ys) qs → Reaches (m + 1) ys qs
  later y ys qs m reach j z w at is =
      let e : m + suc j ≡ m + 1 + j = omega arith in
      subst (λ (q : ℕ). Contains qs q) e (reach (suc j) z w at (ap (λ q. f (q, z)) e ∙ is))

  pub same_from : (xs : List X) (ps : List ℕ) (n k : ℕ) → AscendFrom n ps → ((i p : ℕ) → IsSameRecord ps i p → p < n + length xs)
      → ((j : ℕ) → slice_get full (n + j) ≡ slice_get xs j) → Moves k ps → Reaches n xs ps → Same n xs ps k
  same_from [] [] n k ascend below there moves reaches = refl
  same_from [] (p ∷ ps) n k ascend below there moves reaches =
      let lt : p < n + length {A = X} [] = below 0 p refl in absurd (omega (arith, lt, ascend.0))
  same_from (x ∷ xs) [] n k ascend below there moves reaches =
      passed x xs [] n k tt reaches (same_from xs [] (n + 1) k tt (λ i p at. absurd (cc)) (shifted x xs n there) (λ i p y at. absurd (cc)) (later x xs [] n reaches))
  same_from (x ∷ xs) (p ∷ ps) n k ascend below there moves reaches = elim (cases_eq p n) [
    | inl here ↦
        let first : slice_get full n ≡ Some x = (let z : n + 0 ≡ n = omega arith in ap (slice_get full) (sym z) ∙ there 0) in
        let up : AscendFrom (n + 1) ps = subst (λ (q : ℕ). AscendFrom (q + 1) ps) here ascend.1 in
        taken x xs p ps n k here first moves
        (same_from xs ps (n + 1) (k + 1) up
        (λ i q at. (let lt : q < n + length (x ∷ xs) = below (suc i) q at in omega (arith, lt)))
        (shifted x xs n there)
        (λ i q y at. (let z : k + suc i ≡ k + 1 + i = omega arith in moves (suc i) q y at ∙ ap (λ w. option_map g (f (w, y))) z))
        (λ j y m at is. rest_at p ps (n + 1 + j) (λ e. omega (arith, e, here)) (later x xs (p ∷ ps) n reaches j y m at is)))
    | inr past ↦
        let le : n ≤ p = ascend.0 in
        let differs : (p ≡ n) → ⊥ = past in
        let more : n + 1 ≤ p = elim (cases_lt n p) [ inl less ↦ omega (arith, less) | inr not_less ↦ (let e : p ≡ n = omega (arith, le, not_less) in absurd (differs e)) ] in
        let up : AscendFrom (n + 1) (p ∷ ps) = (more, ascend.1) in
        passed x xs (p ∷ ps) n k up reaches
        (same_from xs (p ∷ ps) (n + 1) k up (λ i q at. (let lt : q < n + length (x ∷ xs) = below i q at in omega (arith, lt)))
        (shifted x xs n there) moves (later x xs (p ∷ ps) n reaches))
  ]

-- ---- what a list gives by place

contains_option : {M : Type 0} (o : Option M) (xs : List M) (m : M) → Contains (cons_option o xs) m → (o ≡ Some m) ⊎ Contains xs m
contains_option {M} None xs m in_ = inr in_
contains_option {M} (Some x) xs m (zero, within, is) = inl (ap Some is)
contains_option {M} (Some x) xs m (suc k, within, is) = inr (k, omega (arith, within), is)

contains_more : {M : Type 0} (o : Option M) (xs : List M) (m : M) → Contains xs m → Contains (cons_option o xs) m
contains_more {M} None xs m in_ = in_
contains_more {M} (Some x) xs m (k, within, is) = (suc k, omega (arith, within), is)

contains_first : {M : Type 0} (o : Option M) (xs : List M) (m : M) → o ≡ Some m → Contains (cons_option o xs) m
contains_first {M} None xs m is = absurd (cc)
contains_first {M} (Some x) xs m is = let same : x ≡ m = (cc) in (0, omega arith, same)

pub given_at : {X M : Type 0} (f : ℕ × X → Option M) (xs : List X) (n : ℕ) (m : M) → Contains (filter_map f (enumerate_from n xs)) m
    → (j : ℕ) × (x : X) × (slice_get xs j ≡ Some x) × (f (n + j, x) ≡ Some m)
given_at {X} {M} f [] n m (k, within, is) = absurd (omega (arith, within))
given_at {X} {M} f (x ∷ xs) n m in_ = elim (contains_option (f (n, x)) (filter_map f (enumerate_from (n + 1) xs)) m in_) [
  | inl here ↦ (let z : n + 0 ≡ n = omega arith in (0, x, refl, ap (λ at. f (at, x)) z ∙ here))
  | inr following ↦ (
      let (j, y, at, is) = given_at f xs (n + 1) m following in
      let z : n + suc j ≡ n + 1 + j = omega arith in
      (suc j, y, at, ap (λ q. f (q, y)) z ∙ is))
]

pub is_given : {X M : Type 0} (f : ℕ × X → Option M) (xs : List X) (n j : ℕ) (x : X) (m : M) → slice_get xs j ≡ Some x → f (n + j, x) ≡ Some m
    → Contains (filter_map f (enumerate_from n xs)) m
is_given {X} {M} f [] n j x m at is = absurd (cc)
is_given {X} {M} f (y ∷ xs) n zero x m at is =
    let z : n + 0 ≡ n = omega arith in
    let same : y ≡ x = (cc) in
    let here : f (n, y) ≡ Some m = ap (λ w. f (n, w)) same ∙ ap (λ q. f (q, x)) (sym z) ∙ is in
    contains_first (f (n, y)) (filter_map f (enumerate_from (n + 1) xs)) m here
is_given {X} {M} f (y ∷ xs) n (suc j) x m at is =
    let z : n + 1 + j ≡ n + suc j = omega arith in
    contains_more (f (n, y)) (filter_map f (enumerate_from (n + 1) xs)) m (is_given f xs (n + 1) j x m at (ap (λ q. f (q, x)) z ∙ is))

-- Positions, and all others.
use Rattle.std.proofs.Common.{◌≡◌, ◌≢◌, ◌⊎◌, ℕ, ◌+◌, ◌<◌, ◌≤◌, List, [], ◌∷◌, ◌++◌, length, get_or, inl, inr, sym, subst, ◌∙◌, arith}
use Rattle.std.specs.Prelude.{All, Contains}
use Rattle.std.specs.List.Sorted.{IsStrictlyIncreasing}
use Rattle.std.proofs.lemmas.Bool.{cases_lt}
use Rattle.std.proofs.lemmas.Grind.{get_or_default_zero}
use Rattle.std.proofs.lemmas.List.Kept.{AllPairs-from_increasing}
use Rattle.std.proofs.lemmas.List.Quantifiers.{all_pairs_push}
use Rattle.std.proofs.lemmas.List.Elements.{All-from_get_or, All-get_or, All-push, All-weaker, Contains-append_left, Contains-push, Contains-push_cases}
use Rattle.warc_rewrite.specs.Selecting.{AreOthers}

-- the positions before a place are less than a number, and no others
pub record IsPassed (ps : List ℕ) (n i : ℕ) : Type 0 where
  pub before : (k : ℕ) → k < i → k < length ps → get_or ps k 0 < n
  pub following : (k : ℕ) → i ≤ k → k < length ps → n ≤ get_or ps k 0

rises : (ps : List ℕ) → IsStrictlyIncreasing ps → (j k : ℕ) → j < k → k < length ps → get_or ps j 0 < get_or ps k 0
rises ps is j k lt within = AllPairs-from_increasing ps is j k 0 lt within

at_most_by : (ps : List ℕ) → IsStrictlyIncreasing ps → (j k : ℕ) → (j < k) ⊎ (k ≤ j) → j ≤ k → k < length ps → get_or ps j 0 ≤ get_or ps k 0
at_most_by ps is j k (inl lt) le within = omega (arith, rises ps is j k lt within)
at_most_by ps is j k (inr ge) le within =
    let same : k ≡ j = omega (arith, le, ge) in
    let P : ℕ → Type 0 = λ m. get_or ps m 0 ≤ get_or ps k 0 in
    subst P same (omega arith)

at_most : (ps : List ℕ) → IsStrictlyIncreasing ps → (j k : ℕ) → j ≤ k → k < length ps → get_or ps j 0 ≤ get_or ps k 0
at_most ps is j k le within = at_most_by ps is j k (cases_lt j k) le within

pub passed_none : (ps : List ℕ) → IsPassed ps 0 0
passed_none ps = record { before = λ k lt within. absurd (omega (arith, lt)); following = λ k le within. omega arith }

-- a position is the next one
pub passed_hit : (ps : List ℕ) → IsStrictlyIncreasing ps → (n i : ℕ) → i < length ps → get_or ps i 0 ≡ n → IsPassed ps (n + 1) (i + 1)
passed_hit ps is n i in_ at = record {
  before = λ k lt within. omega (arith, at, at_most ps is k i (omega (arith, lt)) in_);
  following = λ k le within. omega (arith, at, rises ps is i k (omega (arith, le)) within);
}

pub present : (ps : List ℕ) (n i : ℕ) → i < length ps → get_or ps i 0 ≡ n → Contains ps n
present ps n i in_ at = (i, in_, get_or_default_zero ps i n in_ ∙ at)

-- it isn't
pub passed_miss : (ps : List ℕ) → IsStrictlyIncreasing ps → (n i : ℕ) → IsPassed ps n i → (i < length ps → get_or ps i 0 ≢ n) → IsPassed ps (n + 1) i
passed_miss ps is n i old other = record {
  before = λ k lt within. omega (arith, old.before k lt within);
  following = λ k le within.
      let in_ : i < length ps = omega (arith, le, within) in
      omega (arith, old.following i (omega arith) in_, other in_, at_most ps is i k le within);
}

found_by : (ps : List ℕ) (n i k : ℕ) → IsPassed ps n i → IsPassed ps (n + 1) i → (k < i) ⊎ (i ≤ k) → k < length ps → get_or ps k 0 ≡ n → ⊥
found_by ps n i k old new (inl lt) within at = omega (arith, at, old.before k lt within)
found_by ps n i k old new (inr ge) within at = omega (arith, at, new.following k ge within)

pub absent : (ps : List ℕ) (n i : ℕ) → IsPassed ps n i → IsPassed ps (n + 1) i → Contains ps n → ⊥
absent ps n i old new (k, within, at) =
    found_by ps n i k old new (cases_lt k i) within (sym (get_or_default_zero ps k n within) ∙ at)

-- ---- the others so far

pub others_none : (ps : List ℕ) → AreOthers 0 ps []
others_none ps = record {
  are = record { ascending = λ k lt. absurd (omega (arith, lt)); below = All-from_get_or (λ p. p < 0) [] 0 (λ k lt. absurd (omega (arith, lt))) };
  each = λ p. (λ (k, within, at). absurd (omega (arith, within)), λ (lt, off). absurd (omega (arith, lt)));
}

below_more : (n : ℕ) (os : List ℕ) → All (λ p. p < n) os → All (λ p. p < n + 1) os
below_more n os all = All-weaker (λ p. p < n) (λ p. p < n + 1) (λ p lt. omega (arith, lt)) os all

hit_other : (n : ℕ) (ps os : List ℕ) → AreOthers n ps os → Contains ps n → (p : ℕ) → (p < n) ⊎ (n ≤ p) → p < n + 1 → (Contains ps p → ⊥) → Contains os p
hit_other n ps os old has p (inl lt) less off = (old.each p).1 (lt, off)
hit_other n ps os old has p (inr ge) less off =
    let same : n ≡ p = omega (arith, ge, less) in
    absurd (off (subst (λ q. Contains ps q) same has))

pub others_hit : (n : ℕ) (ps os : List ℕ) → AreOthers n ps os → Contains ps n → AreOthers (n + 1) ps os
others_hit n ps os old has = record {
  are = record { ascending = old.are.ascending; below = below_more n os old.are.below };
  each = λ p. (
    λ is. let (lt, off) = (old.each p).0 is in (omega (arith, lt), off),
    λ (lt, off). hit_other n ps os old has p (cases_lt p n) lt off,
  );
}

pushed : (os : List ℕ) (n : ℕ) → IsStrictlyIncreasing os → All (λ p. p < n) os → IsStrictlyIncreasing (os ++ n ∷ [])
pushed os n is below =
    let pairs = all_pairs_push (λ x y. x < y) os n (AllPairs-from_increasing os is) (λ k d lt. All-get_or (λ p. p < n) os k d lt below) in
    λ k lt. pairs k (k + 1) 0 (omega arith) lt

miss_from : (n : ℕ) (ps os : List ℕ) → AreOthers n ps os → (Contains ps n → ⊥) → (p : ℕ) → Contains os p ⊎ (n ≡ p) → (p < n + 1) × (Contains ps p → ⊥)
miss_from n ps os old off p (inl is) = let (lt, gone) = (old.each p).0 is in (omega (arith, lt), gone)
miss_from n ps os old off p (inr same) = (omega (arith, same), subst (λ q. Contains ps q → ⊥) same off)

miss_to : (n : ℕ) (ps os : List ℕ) → AreOthers n ps os → (p : ℕ) → (p < n) ⊎ (n ≤ p) → p < n + 1 → (Contains ps p → ⊥) → Contains (os ++ n ∷ []) p
miss_to n ps os old p (inl lt) less gone = Contains-append_left os (n ∷ []) p ((old.each p).1 (lt, gone))
miss_to n ps os old p (inr ge) less gone =
    let same : n ≡ p = omega (arith, ge, less) in subst (λ q. Contains (os ++ n ∷ []) q) same (Contains-push os n)

pub others_miss : (n : ℕ) (ps os : List ℕ) → AreOthers n ps os → (Contains ps n → ⊥) → AreOthers (n + 1) ps (os ++ n ∷ [])
others_miss n ps os old off = record {
  are = record {
    ascending = pushed os n old.are.ascending old.are.below;
    below = All-push (λ p. p < n + 1) os n (below_more n os old.are.below) (omega arith);
  };
  each = λ p. (
    λ is. miss_from n ps os old off p (Contains-push_cases os n p is),
    λ (lt, gone). miss_to n ps os old p (cases_lt p n) lt gone,
  );
}

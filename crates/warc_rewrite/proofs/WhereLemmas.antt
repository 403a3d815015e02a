-- Positions that pass a test, one after another.
use Rattle.std.proofs.Common.{◌≡◌, inl, inr, ℕ, ◌+◌, ◌<◌, Bool, true, false, List, [], ◌∷◌, ◌++◌, sym, ap, ◌∙◌, subst, arith, true≢false}
use Rattle.std.specs.Prelude.{All, Contains}
use Rattle.std.specs.List.Sorted.{IsStrictlyIncreasing}
use Rattle.std.proofs.lemmas.Bool.{cases_lt}
use Rattle.std.proofs.lemmas.List.Kept.{AllPairs-from_increasing}
use Rattle.std.proofs.lemmas.List.Quantifiers.{all_pairs_push}
use Rattle.std.proofs.lemmas.List.Elements.{All-from_get_or, All-get_or, All-push, All-weaker, Contains-append_left, Contains-push, Contains-push_cases}
use Rattle.warc_rewrite.specs.Marks.{AreWhere}

pub where_none : (test : ℕ → Bool) → AreWhere test 0 []
where_none test = record {
  are = record { ascending = λ k lt. absurd (omega (arith, lt)); below = All-from_get_or (λ p. p < 0) [] 0 (λ k lt. absurd (omega (arith, lt))) };
  each = λ p. (λ (k, within, at). absurd (omega (arith, within)), λ (lt, is). absurd (omega (arith, lt)));
}

below_more : (n : ℕ) (os : List ℕ) → All (λ p. p < n) os → All (λ p. p < n + 1) os
below_more n os all = All-weaker (λ p. p < n) (λ p. p < n + 1) (λ p lt. omega (arith, lt)) os all

pushed : (os : List ℕ) (n : ℕ) → IsStrictlyIncreasing os → All (λ p. p < n) os → IsStrictlyIncreasing (os ++ n ∷ [])
pushed os n is below =
    let pairs = all_pairs_push (λ x y. x < y) os n (AllPairs-from_increasing os is) (λ k d lt. All-get_or (λ p. p < n) os k d lt below) in
    λ k lt. pairs k (k + 1) 0 (omega arith) lt

pub where_miss : (test : ℕ → Bool) (n : ℕ) (os : List ℕ) → AreWhere test n os → test n ≡ false → AreWhere test (n + 1) os
where_miss test n os old off = record {
  are = record { ascending = old.are.ascending; below = below_more n os old.are.below };
  each = λ p. (
    λ is. let (lt, on) = (old.each p).0 is in (omega (arith, lt), on),
    λ (lt, on). elim (cases_lt p n) [
      | inl less ↦ (old.each p).1 (less, on)
      | inr more ↦
          let same : p ≡ n = omega arith in absurd (true≢false (sym on ∙ (ap test same ∙ off)))
    ],
  );
}

pub where_hit : (test : ℕ → Bool) (n : ℕ) (os : List ℕ) → AreWhere test n os → test n ≡ true → AreWhere test (n + 1) (os ++ n ∷ [])
where_hit test n os old on = record {
  are = record {
    ascending = pushed os n old.are.ascending old.are.below;
    below = All-push (λ p. p < n + 1) os n (below_more n os old.are.below) (omega arith);
  };
  each = λ p. (
    λ is. elim (Contains-push_cases os n p is) [
      | inl earlier ↦ let (lt, hit) = (old.each p).0 earlier in (omega (arith, lt), hit)
      | inr same ↦ (omega (arith, same), subst (λ (k : ℕ). test k ≡ true) same on)
    ],
    λ (lt, hit). elim (cases_lt p n) [
      | inl less ↦ Contains-append_left os (n ∷ []) p ((old.each p).1 (less, hit))
      | inr more ↦ let same : n ≡ p = omega arith in subst (λ q. Contains (os ++ n ∷ []) q) same (Contains-push os n)
    ],
  );
}

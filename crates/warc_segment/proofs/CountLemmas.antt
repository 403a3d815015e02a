-- How often a number is: twice where it is at two places.
use Rattle.std.proofs.Common.{◌≡◌, inl, inr, ℕ, zero, suc, ◌+◌, ◌<◌, ◌≤◌, Bool, true, false, cond, ◌==◌, List, [], ◌∷◌, Some, slice_get, refl, sym, ◌∙◌, ap, arith, eq-eqb}
use Rattle.std.specs.Prelude.{count_by}
use Rattle.std.proofs.lemmas.Bool.{cases_Bool, eqb-true}
use Rattle.std.proofs.lemmas.List.Sums.{sum_by-cons}
use Rattle.warc_segment.specs.Series.{Member, count_numbered, numbers_of}

abbrev one_of : ℕ → ℕ → ℕ
one_of k n = cond (n == k) 1 0

-- how often a number is in a list
abbrev pub times : ℕ → List ℕ → ℕ
times k ks = count_by (λ n. n == k) ks

times-cons : (k n : ℕ) (ks : List ℕ) → times k (n ∷ ks) ≡ one_of k n + times k ks
times-cons k n ks = sum_by-cons (one_of k) n ks

times_here : (k n : ℕ) (ks : List ℕ) → (n == k) ≡ true → times k (n ∷ ks) ≡ 1 + times k ks
times_here k n ks hit = times-cons k n ks ∙ ap (λ (b : Bool). cond b 1 0 + times k ks) hit

times_later : (k n : ℕ) (ks : List ℕ) → (n == k) ≡ false → times k (n ∷ ks) ≡ times k ks
times_later k n ks miss =
    let z : 0 + times k ks ≡ times k ks = omega arith in
    times-cons k n ks ∙ (ap (λ (b : Bool). cond b 1 0 + times k ks) miss ∙ z)

times_le : (k n : ℕ) (ks : List ℕ) → times k ks ≤ times k (n ∷ ks)
times_le k n ks = let e : times k (n ∷ ks) ≡ one_of k n + times k ks = times-cons k n ks in omega arith

-- of the numbers of members
pub count_is_times : (k : ℕ) (members : List Member) → count_numbered k members ≡ times k (numbers_of members)
count_is_times k [] = refl
count_is_times k (m ∷ members) =
    let first : Member → ℕ = λ (x : Member). cond (x.number == k) 1 0 in
    sum_by-cons first m members
    ∙ (ap (λ (n : ℕ). one_of k m.number + n) (count_is_times k members)
    ∙ sym (times-cons k m.number (numbers_of members)))

pub at_once : (k : ℕ) (ks : List ℕ) (p : ℕ) → slice_get ks p ≡ Some k → 1 ≤ times k ks
at_once k [] p e = absurd (cc)
at_once k (n ∷ ks) zero e =
    let is : n ≡ k = cc in
    let c : times k (n ∷ ks) ≡ 1 + times k ks = times_here k n ks (eq-eqb n k is) in
    omega arith
at_once k (n ∷ ks) (suc p) e =
    let later : 1 ≤ times k ks = at_once k ks p e in
    let le : times k ks ≤ times k (n ∷ ks) = times_le k n ks in
    omega arith

pub at_twice : (k : ℕ) (ks : List ℕ) (p q : ℕ) → p < q → slice_get ks p ≡ Some k → slice_get ks q ≡ Some k
    → 2 ≤ times k ks
at_twice k [] p q less e f = absurd (cc)
at_twice k (n ∷ ks) zero zero less e f = absurd (omega arith)
at_twice k (n ∷ ks) zero (suc q) less e f =
    let is : n ≡ k = cc in
    let c : times k (n ∷ ks) ≡ 1 + times k ks = times_here k n ks (eq-eqb n k is) in
    let later : 1 ≤ times k ks = at_once k ks q f in
    omega arith
at_twice k (n ∷ ks) (suc p) zero less e f = absurd (omega arith)
at_twice k (n ∷ ks) (suc p) (suc q) less e f =
    let later : 2 ≤ times k ks = at_twice k ks p q (omega arith) e f in
    let le : times k ks ≤ times k (n ∷ ks) = times_le k n ks in
    omega arith

pub once_at : (k : ℕ) (ks : List ℕ) → 1 ≤ times k ks → (p : ℕ) × (slice_get ks p ≡ Some k)
once_at k [] some = absurd (omega arith)
once_at k (n ∷ ks) some = elim (cases_Bool (n == k)) [
  | inl hit ↦ (0, ap Some (eqb-true n k hit))
  | inr miss ↦
      let c : times k (n ∷ ks) ≡ times k ks = times_later k n ks miss in
      let later = once_at k ks (omega arith) in
      (suc later.0, later.1)
]

-- two places of one number
pub record OccursTwice (k : ℕ) (ks : List ℕ) : Type 0 where
  pub early : ℕ
  pub late : ℕ
  pub order : early < late
  pub first : slice_get ks early ≡ Some k
  pub again : slice_get ks late ≡ Some k

pub twice_at : (k : ℕ) (ks : List ℕ) → 2 ≤ times k ks → OccursTwice k ks
twice_at k [] some = absurd (omega arith)
twice_at k (n ∷ ks) some = elim (cases_Bool (n == k)) [
  | inl hit ↦
      let c : times k (n ∷ ks) ≡ 1 + times k ks = times_here k n ks hit in
      let later = once_at k ks (omega arith) in
      record {
        early = 0;
        late = suc later.0;
        order = omega arith;
        first = ap Some (eqb-true n k hit);
        again =
            later.1;
      }
  | inr miss ↦
      let c : times k (n ∷ ks) ≡ times k ks = times_later k n ks miss in
      let later : OccursTwice k ks = twice_at k ks (omega arith) in
      let up : later.early < later.late = later.order in
      record {
        early = suc later.early;
        late = suc later.late;
        order = omega arith;
        first = later.first;
        again = later.again;
      }
]

-- What is where a test ends.
use Rattle.std.proofs.Common.{◌≡◌, ℕ, zero, suc, ◌≤◌, Bool, true, false, cond, not, List, [], ◌∷◌, length, get_or, Option, Some, None, refl, sym, ap, subst, ◌∙◌, inl, inr, arith, true≢false, find, slice_get, insert, ◌⊎◌}
use Rattle.std.proofs.lemmas.Bool.{cases_Bool, cases_lt}
use Rattle.std.proofs.lemmas.Cmp.{upto, tied_itself}
use Rattle.std.proofs.lemmas.List.Elements.{All-cons, All-head, All-tail, All-weaker, All-contains}
use Rattle.std.proofs.lemmas.List.Kept.{AllPairs-cons}
use Rattle.std.proofs.lemmas.List.Sorted.{IsPermutation-refl, IsPermutation-trans, IsPermutation-sym, IsPermutation-middle, IsPermutation-cons}
use Rattle.std.specs.Cmp.{IsTotalOrder}
use Rattle.std.specs.Ordering.{is_lt, is_gt, is_le, ordering_reverse}
use Rattle.std.specs.declared.cmp.Ordering.{Ordering}
use Rattle.std.specs.declared.cmp.Ordering.TheVariants.{Less, Equal, Greater}
use Rattle.std.specs.List.{All, Contains}
use Rattle.std.specs.List.Sorted.{IsPartitionedBy, IsPartitionPoint, IsPermutation}
use Rattle.warc_order.specs.declared.slot.Slot.{Slot}
use Rattle.warc_order.specs.Ranking.{placed, last_from, find_last, IsRanked, IsFirstOf, IsLastOf}

-- a test ends after the first element, at what is left
abbrev pub EndsAt : (Slot → Bool) → List Slot → ℕ → Type 0
EndsAt t xs c = IsPartitionPoint (λ p. t p ≡ true) (λ p. t p ≡ false) xs c

front_rest : (t : Slot → Bool) (x : Slot) (xs : List Slot) (c : ℕ) → EndsAt t (x ∷ xs) (suc c) → EndsAt t xs c
front_rest t x xs c it = (
  λ k d low lt. it.0 (suc k) d (omega arith) (omega arith),
  λ k d ge lt. it.1 (suc k) d (omega
      arith) (omega arith),
)

back_rest : (t : Slot → Bool) (x : Slot) (xs : List Slot) → EndsAt t (x ∷ xs) 0 → EndsAt t xs 0
back_rest t x xs it = (λ k d low lt. absurd (omega arith), λ k d ge lt. it.1 (suc k) d (omega arith) (omega arith))

-- the first that fails
pub find-end : (t : Slot → Bool) (xs : List Slot) (c : ℕ) → EndsAt t xs c → find (λ p. not (t p)) xs ≡ slice_get xs c
find-end t [] c it = refl
find-end t (x ∷ xs) zero it = rw (it.1 0 x (omega arith) (omega arith)) refl
find-end t (x ∷ xs) (suc c) it = rw (it.0 0 x (omega arith) (omega arith)) (find-end t xs c (front_rest t x xs c it))

-- the last of the first c, or what was found before
abbrev pub last_of_first : Option Slot → List Slot → ℕ → Option Slot
last_of_first found xs zero = found
last_of_first found xs (suc c) = slice_get xs c

-- the last that passes
pub last_from-end : (t : Slot → Bool) (found : Option Slot) (xs : List Slot) (c : ℕ) → c ≤ length xs → EndsAt t xs c →
    last_from t found xs ≡ last_of_first found xs c
last_from-end t found [] zero le it = refl
last_from-end t found [] (suc c) le it = absurd (omega arith)
last_from-end t found (x ∷ xs) zero le it = rw (it.1 0 x (omega arith) (omega arith)) (last_from-end t found xs zero
    (omega arith) (back_rest t x xs it))
last_from-end t found (x ∷ xs) (suc zero) le it = rw (it.0 0 x (omega arith) (omega arith)) (last_from-end t (Some x)
    xs zero (omega arith) (front_rest t x xs 0 it))
last_from-end t found (x ∷ xs) (suc (suc c)) le it = rw (it.0 0 x (omega arith) (omega arith)) (last_from-end t (Some
    x) xs (suc c) (omega arith) (front_rest t x xs (suc c) it))

-- one more index goes where the test of comparing less ends
pub placed-end : (compare : Slot → Slot → Ordering) (xs : List Slot) (q : Slot) (c : ℕ) → c ≤ length xs →
    EndsAt (λ p. is_lt (compare p q)) xs c → placed compare xs q ≡ insert xs c q
placed-end compare [] q zero le it = refl
placed-end compare [] q (suc c) le it = absurd (omega arith)
placed-end compare (x ∷ xs) q zero le it = rw (it.1 0 x (omega arith) (omega arith)) refl
placed-end compare (x ∷ xs) q (suc c) le it = rw (it.0 0 x (omega arith) (omega arith)) (ap (λ us. x ∷ us) (placed-end
    compare xs q c (omega arith) (front_rest (λ p. is_lt (compare p q)) x xs c it)))

-- ---- orders

lt_reverse : (o : Ordering) → is_lt (ordering_reverse o) ≡ is_gt o
lt_reverse Less = refl
lt_reverse Equal = refl
lt_reverse Greater = refl

-- one is less where the other is greater
pub lt_is_gt : (compare : Slot → Slot → Ordering) → IsTotalOrder compare → (a b : Slot) →
    is_lt (compare a b) ≡ is_gt (compare b a)
lt_is_gt compare total a b = ap is_lt (total.antisymm a b) ∙ lt_reverse (compare b a)

not_both : (o : Ordering) → is_lt o ≡ true → is_gt o ≡ false
not_both Less e = refl
not_both Equal e = refl
not_both Greater e = absurd (true≢false (sym e))

-- the test of comparing less ends for good, on indices in the order
pub ranked_ends : (compare : Slot → Slot → Ordering) (xs : List Slot) (q : Slot) → IsTotalOrder compare →
    IsRanked compare xs → IsPartitionedBy (λ p. is_lt (compare p q)) xs
ranked_ends compare xs q total ranked i j d le lt hit = elim (cases_lt i j) [
  | inl low ↦ elim (cases_Bool (is_lt (compare (get_or xs i d) q))) [
    | inl good ↦ good
    | inr bad ↦
        let back : is_gt (compare q (get_or xs i d)) ≡ false = sym (lt_is_gt compare total (get_or xs i d) q) ∙ bad in
        let far : is_gt (compare q (get_or xs j d)) ≡ false = upto total q (get_or xs i d) (get_or xs j d) back (ranked
        i j d low lt) in
        absurd (true≢false (sym hit ∙ (lt_is_gt compare total (get_or xs j d) q ∙ far)))
  ]
  | inr high ↦
      let e : j ≡ i = omega arith in
      ap (λ n. is_lt (compare (get_or xs n d) q)) (sym e) ∙ hit
]

le_from : (o : Ordering) → is_gt o ≡ false → is_le o ≡ true
le_from Less e = refl
le_from Equal e = refl
le_from Greater e = absurd (true≢false e)

from_le : (o : Ordering) → is_le o ≡ true → is_gt o ≡ false
from_le Less e = refl
from_le Equal e = refl
from_le Greater e = absurd (true≢false (sym e))

-- the test of not coming after ends for good too
pub upto_ends : (compare : Slot → Slot → Ordering) (xs : List Slot) (q : Slot) → IsTotalOrder compare →
    IsRanked compare xs → IsPartitionedBy (λ p. is_le (compare p q)) xs
upto_ends compare xs q total ranked i j d le lt hit = elim (cases_lt i j) [
  | inl low ↦ le_from _ (upto total (get_or xs i d) (get_or xs j d) q (ranked i j d low lt) (from_le _ hit))
  | inr high ↦
      let e : j ≡ i = omega arith in
      ap (λ n. is_le (compare (get_or xs n d) q)) (sym e) ∙ hit
]

ranked_head : (compare : Slot → Slot → Ordering) (x : Slot) (xs : List Slot) → IsRanked compare (x ∷ xs) →
    All (λ y. is_gt (compare x y) ≡ false) xs
ranked_head compare x xs ranked k d h = ranked 0 (suc k) d (omega arith) (omega arith)

ranked_tail : (compare : Slot → Slot → Ordering) (x : Slot) (xs : List Slot) → IsRanked compare (x ∷ xs) →
    IsRanked compare xs
ranked_tail compare x xs ranked i j d h k = ranked (suc i) (suc j) d (omega arith) (omega arith)

All-placed : (compare : Slot → Slot → Ordering) (P : Slot → Type 0) (xs : List Slot) (q : Slot) → All P xs → P q →
    All P (placed compare xs q)
All-placed compare P [] q all one = All-cons P q [] one all
All-placed compare P (x ∷ xs) q all one = elim (cases_Bool (is_lt (compare x q))) [
  | inl before ↦ rw before (All-cons P x (placed compare xs q) (All-head P x xs all) (All-placed compare P xs q
      (All-tail P x xs all) one))
  | inr following ↦ rw following (All-cons P q (x ∷ xs) one all)
]

-- they stay in the order
pub ranked_placed : (compare : Slot → Slot → Ordering) → IsTotalOrder compare → (xs : List Slot) (q : Slot) →
    IsRanked compare xs → IsRanked compare (placed compare xs q)
ranked_placed compare total [] q ranked = λ i j d h k. absurd (omega arith)
ranked_placed compare total (x ∷ xs) q ranked = elim (cases_Bool (is_lt (compare x q))) [
  | inl before ↦
      rw before (AllPairs-cons (λ a b. is_gt (compare a b) ≡ false) x (placed compare xs q)
      (All-placed compare (λ y. is_gt (compare x y) ≡ false) xs q (ranked_head compare x xs ranked) (not_both (compare
      x q) before))
      (ranked_placed compare total xs q (ranked_tail compare x xs ranked)))
  | inr following ↦
      let first : is_gt (compare q x) ≡ false = sym (lt_is_gt compare total x q) ∙ following in
      rw following (AllPairs-cons (λ a b. is_gt (compare a b) ≡ false) q (x ∷ xs)
      (All-cons (λ y. is_gt (compare q y) ≡ false) x xs first (All-weaker (λ y. is_gt (compare x y) ≡ false) (λ y.
      is_gt (compare q y) ≡ false) (λ y h. upto total q x y first h) xs (ranked_head compare x xs ranked)))
      ranked)
]

-- nothing is lost, and nothing else added
pub placed_members : (compare : Slot → Slot → Ordering) (xs : List Slot) (q : Slot) →
    IsPermutation (q ∷ xs) (placed compare xs q)
placed_members compare [] q = IsPermutation-refl (q ∷ [])
placed_members compare (x ∷ xs) q = elim (cases_Bool (is_lt (compare x q))) [
  | inl before ↦
      rw before (IsPermutation-trans (q ∷ x ∷ xs) (x ∷ q ∷ xs) (x ∷ placed compare xs q)
      (IsPermutation-sym (x ∷ q ∷ xs) (q ∷ x ∷ xs) (IsPermutation-middle (x ∷ []) q xs))
      (IsPermutation-cons x (q ∷ xs) (placed compare xs q) (placed_members compare xs q)))
  | inr following ↦ rw following (IsPermutation-refl (q ∷ x ∷ xs))
]

-- ---- what is found

-- a index does not compare greater than itself
pub not_itself : (compare : Slot → Slot → Ordering) → IsTotalOrder compare → (a : Slot) → is_gt (compare a a) ≡ false
not_itself compare total a = ap is_gt (tied_itself total a)

contains_cons : (x : Slot) (xs : List Slot) (q : Slot) → Contains (x ∷ xs) q → (x ≡ q) ⊎ Contains xs q
contains_cons x xs q (zero, lt, e) = inl e
contains_cons x xs q (suc k, lt, e) = inr (k, omega arith, e)

contains_head : (x : Slot) (xs : List Slot) → Contains (x ∷ xs) x
contains_head x xs = (0, omega arith, refl)

no_member : (q : Slot) → Contains [] q → ⊥
no_member q (k, lt, e) = omega arith

contains_tail : (x : Slot) (xs : List Slot) (q : Slot) → Contains xs q → Contains (x ∷ xs) q
contains_tail x xs q (k, lt, e) = (suc k, omega arith, e)

-- the first of a list that fails is the first in the order
first_at_head : (compare : Slot → Slot → Ordering) → IsTotalOrder compare → (t : Slot →
    Bool) (x : Slot) (xs : List Slot) → IsRanked compare (x ∷ xs) → t x ≡ false → IsFirstOf compare t (x ∷ xs) x
first_at_head compare total t x xs ranked miss = record {
  is_present = contains_head x xs;
  fails = miss;
  first = λ q c f. elim (contains_cons x xs q c) [
    | inl e ↦ ap (λ r. is_gt (compare x r)) (sym e) ∙ not_itself compare total x
    | inr c' ↦ All-contains (λ y. is_gt (compare x y) ≡ false) xs q (ranked_head compare x xs ranked) c'
  ];
}

first_after : (compare : Slot → Slot → Ordering) (t : Slot → Bool) (x : Slot) (xs : List Slot) (p : Slot) →
    t x ≡ true → IsFirstOf compare t xs p → IsFirstOf compare t (x ∷ xs) p
first_after compare t x xs p hit it = record {
  is_present = contains_tail x xs p it.is_present;
  fails = it.fails;
  first = λ q c f. elim (contains_cons x xs q c) [
    | inl e ↦ absurd (true≢false (sym hit ∙ (ap t e ∙ f)))
    | inr c' ↦ it.first q c' f
  ];
}

pub first_found : (compare : Slot → Slot → Ordering) → IsTotalOrder compare → (t : Slot → Bool) (xs : List Slot) →
    IsRanked compare xs → (p : Slot) → find (λ x. not (t x)) xs ≡ Some p → IsFirstOf compare t xs p
first_found compare total t [] ranked p e = cc
first_found compare total t (x ∷ xs) ranked p e = elim (cases_Bool (t x)) [
  | inl hit ↦
      let f : find (λ x. not (t x)) xs ≡ Some p = sym (ap (λ b. cond (not b) (Some x) (find (λ x. not (t x)) xs)) hit)
      ∙ e in
      first_after compare t x xs p hit (first_found compare total t xs (ranked_tail compare x xs ranked) p f)
  | inr miss ↦
      let f : Some x ≡ Some p = sym (ap (λ b. cond (not b) (Some x) (find (λ x. not (t x)) xs)) miss) ∙ e in
      let same : x ≡ p = (cc) in
      subst (IsFirstOf compare t (x ∷ xs)) same (first_at_head compare total t x xs ranked miss)
]

pub none_found : (t : Slot → Bool) (xs : List Slot) → find (λ x. not (t x)) xs ≡ None → All (λ x. t x ≡ true) xs
none_found t [] e = λ k d h. absurd (omega arith)
none_found t (x ∷ xs) e = elim (cases_Bool (t x)) [
  | inl hit ↦
      let f : find (λ x. not (t x)) xs ≡ None = sym (ap (λ b. cond (not b) (Some x) (find (λ x. not (t x)) xs)) hit)
      ∙ e in
      All-cons (λ x. t x ≡ true) x xs hit (none_found t xs f)
  | inr miss ↦
      let f : Some x ≡ None = sym (ap (λ b. cond (not b) (Some x) (find (λ x. not (t x)) xs)) miss) ∙ e in
      cc
]

-- the last of a list that passes is the last in the order
last_with : (compare : Slot → Slot → Ordering) → IsTotalOrder compare → (t : Slot →
    Bool) (f : Slot) (xs : List Slot) → IsRanked compare (f ∷ xs) → t f ≡ true → (p : Slot) →
    last_from t (Some f) xs ≡ Some p → IsLastOf compare t (f ∷ xs) p
last_with compare total t f [] ranked hit p e =
    let same : f ≡ p = (cc) in
    subst (IsLastOf compare t (f ∷ [])) same record {
      is_present = contains_head f [];
      passes = hit;
      last = λ q c g. elim (contains_cons f [] q c) [
        | inl e ↦ ap (λ r. is_gt (compare r f)) (sym e) ∙ not_itself compare total f
        | inr c' ↦ absurd (no_member q c')
      ];
    }
last_with compare total t f (x ∷ xs) ranked hit p e = elim (cases_Bool (t x)) [
  | inl more ↦
      let g : last_from t (Some x) xs ≡ Some p = sym (ap (λ b. last_from t (cond b (Some x) (Some f)) xs) more) ∙ e in
      let it : IsLastOf compare t (x ∷ xs) p = last_with compare total t x xs (ranked_tail compare f (x ∷ xs) ranked)
      more p g in
      record {
        is_present = contains_tail f (x ∷ xs) p it.is_present;
        passes = it.passes;
        last = λ q c h. elim (contains_cons f (x ∷ xs) q c) [
          | inl e ↦ ap (λ r. is_gt (compare r p)) (sym e) ∙ All-contains (λ y. is_gt (compare f y) ≡ false) (x ∷ xs) p
              (ranked_head compare f (x ∷ xs) ranked) it.is_present
          | inr c' ↦ it.last q c' h
        ];
      }
  | inr miss ↦
      let g : last_from t (Some f) xs ≡ Some p = sym (ap (λ b. last_from t (cond b (Some x) (Some f)) xs) miss) ∙ e in
      let fewer : IsRanked compare (f ∷ xs) =
      AllPairs-cons (λ a b. is_gt (compare a b) ≡ false) f xs (All-tail (λ y. is_gt (compare f y) ≡ false) x xs
      (ranked_head compare f (x ∷ xs) ranked)) (ranked_tail compare x xs (ranked_tail compare f (x ∷ xs) ranked)) in
      let it : IsLastOf compare t (f ∷ xs) p = last_with compare total t f xs fewer hit p g in
      record {
        is_present = elim (contains_cons f xs p it.is_present) [
          | inl e ↦ subst (Contains (f ∷ x ∷ xs)) e (contains_head f (x ∷ xs))
          | inr c ↦ contains_tail f (x ∷ xs) p (contains_tail x xs p c)
        ];
        passes = it.passes;
        last = λ q c h. elim (contains_cons f (x ∷ xs) q c) [
          | inl e ↦ it.last q (subst (Contains (f ∷ xs)) e (contains_head f xs)) h
          | inr c' ↦ elim (contains_cons x xs q c') [
            | inl e ↦ absurd (true≢false (sym h ∙ (ap t (sym e) ∙ miss)))
            | inr c'' ↦ it.last q (contains_tail f xs q c'') h
          ]
        ];
      }
]

pub last_found : (compare : Slot → Slot → Ordering) → IsTotalOrder compare → (t : Slot → Bool) (xs : List Slot) →
    IsRanked compare xs → (p : Slot) → find_last t xs ≡ Some p → IsLastOf compare t xs p
last_found compare total t [] ranked p e = cc
last_found compare total t (x ∷ xs) ranked p e = elim (cases_Bool (t x)) [
  | inl hit ↦
      let g : last_from t (Some x) xs ≡ Some p = sym (ap (λ b. last_from t (cond b (Some x) None) xs) hit) ∙ e in
      last_with compare total t x xs ranked hit p g
  | inr miss ↦
      let g : find_last t xs ≡ Some p = sym (ap (λ b. last_from t (cond b (Some x) None) xs) miss) ∙ e in
      let it : IsLastOf compare t xs p = last_found compare total t xs (ranked_tail compare x xs ranked) p g in
      record {
        is_present = contains_tail x xs p it.is_present;
        passes = it.passes;
        last = λ q c h. elim (contains_cons x xs q c) [
          | inl e ↦ absurd (true≢false (sym h ∙ (ap t (sym e) ∙ miss)))
          | inr c' ↦ it.last q c' h
        ];
      }
]

some_stays : (t : Slot → Bool) (f : Slot) (xs : List Slot) → last_from t (Some f) xs ≡ None → ⊥
some_stays t f [] e = cc
some_stays t f (x ∷ xs) e = elim (cases_Bool (t x)) [
  | inl hit ↦ some_stays t x xs (sym (ap (λ b. last_from t (cond b (Some x) (Some f)) xs) hit) ∙ e)
  | inr miss ↦ some_stays t f xs (sym (ap (λ b. last_from t (cond b (Some x) (Some f)) xs) miss) ∙ e)
]

pub none_last : (t : Slot → Bool) (xs : List Slot) → find_last t xs ≡ None → All (λ x. t x ≡ false) xs
none_last t [] e = λ k d h. absurd (omega arith)
none_last t (x ∷ xs) e = elim (cases_Bool (t x)) [
  | inl hit ↦ absurd (some_stays t x xs (sym (ap (λ b. last_from t (cond b (Some x) None) xs) hit) ∙ e))
  | inr miss ↦ All-cons (λ x. t x ≡ false) x xs miss (none_last t xs (sym (ap (λ b. last_from t (cond b (Some x) None)
      xs) miss) ∙ e))
]

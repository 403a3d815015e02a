-- The best of a scan is the latest that passes.
use Rattle.std.proofs.Common.{take, ◌≡◌, ◌≢◌, inl, inr, ℕ, zero, suc, ◌+◌, ◌<◌, Bool, true, false, cond, ◌&&◌, ◌||◌, List, [], ◌∷◌, length, find, Option, Some, None, option_map, slice_get, refl, sym, ◌∙◌, ap, arith, true≢false}
use Rattle.std.proofs.lemmas.Bool.{cases_lt, cases_Bool, and_left, and_right}
use Rattle.std.proofs.lemmas.Bool.Decides.{nat_tests}
use Rattle.std.proofs.lemmas.Option.{slice_get_within, get_or_from_slice_get}
use Rattle.std.proofs.lemmas.List.Folds.{list_any_more}
use Rattle.std.specs.List.{enumerate_from, list_any}
use Rattle.warc_value.specs.Dates.{Instant, is_before}
use Rattle.warc_index.specs.Captures.{Indexed}
use Rattle.warc_index.specs.Captures.{Numbered, is_earlier, is_later, is_latest, latest}

-- the test fails at each place below i
abbrev pub NoneBelow : (Indexed → Bool) → List Indexed → ℕ → Type 0
NoneBelow test all i = (k : ℕ) (r : Indexed) → k < i → slice_get all k ≡ Some r → test r ≡ false

-- p is below i and passes, and none below i that passes is later
pub record IsBestBelow (test : Indexed → Bool) (all : List Indexed) (i p : ℕ) : Type 0 where
  pub it : Indexed
  pub within : p < i
  pub is_present : slice_get all p ≡ Some it
  pub passes : test it ≡ true
  pub last : (k : ℕ) (r : Indexed) → k < i → slice_get all k ≡ Some r → test r ≡ true
      → is_later (k, r) (p, it) ≡ false

-- what is known of the best below i
abbrev pub BestBelow : (Indexed → Bool) → List Indexed → ℕ → Option ℕ → Type 0
BestBelow test all i None = NoneBelow test all i
BestBelow test all i (Some p) = IsBestBelow test all i p

-- ---- a list with its positions

pub any_at : (t : Numbered → Bool) (n : ℕ) (all : List Indexed) (k : ℕ) (r : Indexed) → slice_get all k ≡ Some r
    → t (n + k, r) ≡ true → list_any t (enumerate_from n all) ≡ true
any_at t n [] k r e hit = cc
any_at t n (x ∷ all) zero r e hit =
    let same : x ≡ r = (cc) in
    let z : n + 0 ≡ n = omega arith in
    let h : t (n, x) ≡ true = ap (λ (m : ℕ). t (m, x)) (sym z) ∙ (ap (λ (y : Indexed). t (n + 0, y)) same ∙ hit) in
    ap (λ (b : Bool). b || list_any t (enumerate_from (n + 1) all)) h
any_at t n (x ∷ all) (suc k) r e hit =
    let z : (n + 1) + k ≡ n + suc k = omega arith in
    let h : list_any t (enumerate_from (n + 1) all) ≡ true =
    any_at t (n + 1) all k r e (ap (λ (m : ℕ). t (m, r)) z ∙ hit) in
    grind (arith, h)

none_of : (t : Numbered → Bool) (n : ℕ) (all : List Indexed) → ((k : ℕ) (r : Indexed) → slice_get all k ≡ Some r
    → t (n + k, r) ≡ false) → list_any t (enumerate_from n all) ≡ false
none_of t n [] miss = refl
none_of t n (x ∷ all) miss =
    let z : n + 0 ≡ n = omega arith in
    let h : t (n, x) ≡ false = ap (λ (m : ℕ). t (m, x)) (sym z) ∙ miss 0 x refl in
    ap (λ (b : Bool). b || list_any t (enumerate_from (n + 1) all)) h
    ∙ none_of t (n + 1) all (λ k r e. let w : (n + 1) + k ≡ n + suc k = omega arith in
    ap (λ (m : ℕ). t (m, r)) w ∙ miss (suc k) r e)

find_none : (t : Numbered → Bool) (n : ℕ) (all : List Indexed) → ((k : ℕ) (r : Indexed) → slice_get all k ≡ Some r
    → t (n + k, r) ≡ false) → find t (enumerate_from n all) ≡ None
find_none t n [] miss = refl
find_none t n (x ∷ all) miss =
    let z : n + 0 ≡ n = omega arith in
    let h : t (n, x) ≡ false = ap (λ (m : ℕ). t (m, x)) (sym z) ∙ miss 0 x refl in
    ap (λ (b : Bool). cond b (Some (n, x)) (find t (enumerate_from (n + 1) all))) h
    ∙ find_none t (n + 1) all (λ k r e. let w : (n + 1) + k ≡ n + suc k = omega arith in
    ap (λ (m : ℕ). t (m, r)) w ∙ miss (suc k) r e)

find_at : (t : Numbered → Bool) (n : ℕ) (all : List Indexed) (k : ℕ) (r : Indexed) → slice_get all k ≡ Some r
    → t (n + k, r) ≡ true → ((j : ℕ) (s : Indexed) → j < k → slice_get all j ≡ Some s → t (n + j, s) ≡ false)
    → find t (enumerate_from n all) ≡ Some (n + k, r)
find_at t n [] k r e hit miss = cc
find_at t n (x ∷ all) zero r e hit miss =
    let same : x ≡ r = (cc) in
    let z : n + 0 ≡ n = omega arith in
    let h : t (n, x) ≡ true = ap (λ (m : ℕ). t (m, x)) (sym z) ∙ (ap (λ (y : Indexed). t (n + 0, y)) same ∙ hit) in
    ap (λ (b : Bool). cond b (Some (n, x)) (find t (enumerate_from (n + 1) all))) h
    ∙ (ap (λ (m : ℕ). Some (m, x)) (sym z) ∙ ap (λ (y : Indexed). Some (n + 0, y)) same)
find_at t n (x ∷ all) (suc k) r e hit miss =
    let z : n + 0 ≡ n = omega arith in
    let h : t (n, x) ≡ false = ap (λ (m : ℕ). t (m, x)) (sym z) ∙ miss 0 x (omega arith) refl in
    let w : (n + 1) + k ≡ n + suc k = omega arith in
    ap (λ (b : Bool). cond b (Some (n, x)) (find t (enumerate_from (n + 1) all))) h
    ∙ (find_at t (n + 1) all k r e (ap (λ (m : ℕ). t (m, r)) w ∙ hit)
    (λ j s lt f. let v : (n + 1) + j ≡ n + suc j = omega arith in
    ap (λ (m : ℕ). t (m, s)) v ∙ miss (suc j) s (omega arith) f)
    ∙ ap (λ (m : ℕ). Some (m, r)) w)

-- ---- the order

-- of two places one is later
later_one : (j k : ℕ) (s r : Indexed) → j ≢ k → is_later (j, s) (k, r) ≡ false → is_later (k, r) (j, s) ≡ true
later_one j k s r differ e = grind (arith, nat_tests)

chain_before : (a b c : Instant) → is_before a b ≡ false → is_before b c ≡ false → is_before a c ≡ false
chain_before a b c e f = grind (arith, nat_tests)

-- not earlier goes along
chain : (a b c : Option Instant) → is_earlier a b ≡ false → is_earlier b c ≡ false → is_earlier a c ≡ false
chain a b None e f = refl
chain a None (Some c) e f = absurd (true≢false f)
chain None (Some b) (Some c) e f = absurd (true≢false e)
chain (Some a) (Some b) (Some c) e f = chain_before a b c e f

one_way_before : (a b : Instant) → is_before a b ≡ true → is_before b a ≡ false
one_way_before a b e = grind (arith, nat_tests)

one_way : (a b : Option Instant) → is_earlier a b ≡ true → is_earlier b a ≡ false
one_way a None e = absurd (true≢false (sym e))
one_way None (Some b) e = refl
one_way (Some a) (Some b) e = one_way_before a b e

-- ---- the whole scan

pub latest-none : (test : Indexed → Bool) (all : List Indexed) → NoneBelow test all (length all)
    → latest test all ≡ None
latest-none test all none =
    ap (option_map (λ (a : Numbered). a.0)) (find_none (is_latest test (enumerate_from 0 all)) 0 all
    (λ k r e. and_left (test r) _ (none k r (slice_get_within all k r e) e)))

pub latest-best : (test : Indexed → Bool) (all : List Indexed) (p : ℕ) → IsBestBelow test all (length all) p
    → latest test all ≡ Some p
latest-best test all p best =
    let entries : List Numbered = enumerate_from 0 all in
    let z : 0 + p ≡ p = omega arith in
    let quiet : list_any (λ (b : Numbered). test b.1 && is_later b (0 + p, best.it)) entries ≡ false =
    none_of (λ b. test b.1 && is_later b (0 + p, best.it)) 0 all (λ k r e. elim (cases_Bool (test r)) [
      | inl hit ↦ and_right (test r) _ (ap (λ (m : ℕ). is_later (m, r) (0 + p, best.it)) (omega arith)
          ∙ (ap (λ (m : ℕ). is_later (k, r) (m, best.it)) z ∙ best.last k r (slice_get_within all k r e) e hit))
      | inr miss ↦ and_left (test r) _ miss
    ]) in
    let here : is_latest test entries (0 + p, best.it) ≡ true = grind (arith, quiet, best.passes) in
    let found : find (is_latest test entries) entries ≡ Some (0 + p, best.it) =
    find_at (is_latest test entries) 0 all p best.it best.is_present here (λ j s lt e. elim (cases_Bool (test s)) [
      | inr miss ↦ and_left (test s) _ miss
      | inl hit ↦
          let ne : j ≢ p = omega arith in
          let before : is_later (j, s) (p, best.it) ≡ false = best.last j s (slice_get_within all j s e) e hit in
          let after : is_later (p, best.it) (j, s) ≡ true = later_one j p s best.it ne before in
          let zj : 0 + j ≡ j = omega arith in
          let after0 : is_later (0 + p, best.it) (0 + j, s) ≡ true =
          ap (λ (m : ℕ). is_later (m, best.it) (0 + j, s)) z
          ∙ (ap (λ (m : ℕ). is_later (p, best.it) (m, s)) zj ∙ after) in
          let some : list_any (λ (b : Numbered). test b.1 && is_later b (0 + j, s)) entries ≡ true =
          any_at (λ b. test b.1 && is_later b (0 + j, s)) 0 all p best.it best.is_present (grind
          (arith, after0, best.passes)) in
          grind (arith, some)
    ]) in
    ap (option_map (λ (a : Numbered). a.0)) found ∙ ap Some z

-- ---- a step of the scan

same_at : (all : List Indexed) (k i : ℕ) (r x : Indexed) → k ≡ i → slice_get all k ≡ Some r
    → slice_get all i ≡ Some x → r ≡ x
same_at all k i r x z f e = cc

not_earlier_itself_before : (a : Instant) → is_before a a ≡ false
not_earlier_itself_before a = grind (arith, nat_tests)

not_earlier_itself : (a : Option Instant) → is_earlier a a ≡ false
not_earlier_itself None = refl
not_earlier_itself (Some a) = not_earlier_itself_before a

not_later_not_earlier : (k p : ℕ) (r it : Indexed) → is_later (k, r) (p, it) ≡ false
    → is_earlier it.instant r.instant ≡ false
not_later_not_earlier k p r it e = grind arith

not_later_from : (k i : ℕ) (r x : Indexed) → k < i → is_earlier x.instant r.instant ≡ false
    → is_later (k, r) (i, x) ≡ false
not_later_from k i r x lt e = grind (arith, nat_tests)

not_later_at : (k i : ℕ) (r x : Indexed) → k ≡ i → is_earlier x.instant r.instant ≡ false
    → is_later (k, r) (i, x) ≡ false
not_later_at k i r x z e = grind (arith, nat_tests)

not_later_if_earlier : (k p : ℕ) (r it : Indexed) → is_earlier r.instant it.instant ≡ true
    → is_later (k, r) (p, it) ≡ false
not_later_if_earlier k p r it e = let w : is_earlier it.instant r.instant ≡ false =
    one_way r.instant it.instant e in grind arith

pub step-miss : (test : Indexed → Bool) (all : List Indexed) (i : ℕ) (best : Option ℕ) (x : Indexed)
    → BestBelow test all i best → slice_get all i ≡ Some x → test x ≡ false → BestBelow test all (i + 1) best
step-miss test all i None x none e miss = λ k r lt f. elim (cases_lt k i) [
  | inl low ↦ none k r low f
  | inr high ↦ let z : k ≡ i = omega arith in let same : r ≡ x = same_at all k i r x z f e in ap test same ∙ miss
]
step-miss test all i (Some p) x best e miss = record {
  it = best.it;
  within = let h : p < i = best.within in omega arith;
  is_present = best.is_present;
  passes = best.passes;
  last = λ k r lt f hit. elim (cases_lt k i) [
    | inl low ↦ best.last k r low f hit
    | inr high ↦ let z : k ≡ i = omega arith in
        absurd (true≢false (sym hit ∙ (ap test (same_at all k i r x z f e) ∙ miss)))
  ];
}

pub step-first : (test : Indexed → Bool) (all : List Indexed) (i : ℕ) (x : Indexed) → NoneBelow test all i
    → slice_get all i ≡ Some x → test x ≡ true → IsBestBelow test all (i + 1) i
step-first test all i x none e hit = record {
  it = x;
  within = omega arith;
  is_present = e;
  passes = hit;
  last = λ k r lt f goes. elim (cases_lt k i) [
    | inl low ↦ absurd (true≢false (sym goes ∙ none k r low f))
    | inr high ↦
        let z : k ≡ i = omega arith in
        let same : r ≡ x = same_at all k i r x z f e in
        let w : is_earlier x.instant r.instant ≡ false =
        ap (λ (t : Indexed). is_earlier x.instant t.instant) same ∙ not_earlier_itself x.instant in
        not_later_at k i r x z w
  ];
}

pub step-later : (test : Indexed → Bool) (all : List Indexed) (i p : ℕ) (x y : Indexed) → IsBestBelow test all i p
    → slice_get all i ≡ Some x → slice_get all p ≡ Some y → test x ≡ true → is_earlier x.instant y.instant ≡ false
    → IsBestBelow test all (i + 1) i
step-later test all i p x y best e f hit after = record {
  it = x;
  within = omega arith;
  is_present = e;
  passes = hit;
  last = λ k r lt g goes. elim (cases_lt k i) [
    | inl low ↦
        let same : best.it ≡ y = same_at all p p best.it y refl best.is_present f in
        let old : is_later (k, r) (p, best.it) ≡ false = best.last k r low g goes in
        let quiet : is_earlier best.it.instant r.instant ≡ false = not_later_not_earlier k p r best.it old in
        not_later_from k i r x low (chain x.instant best.it.instant r.instant (ap (λ
        (z : Indexed). is_earlier x.instant z.instant) same ∙ after) quiet)
    | inr high ↦
        let z : k ≡ i = omega arith in
        let same : r ≡ x = same_at all k i r x z g e in
        let w : is_earlier x.instant r.instant ≡ false =
        ap (λ (t : Indexed). is_earlier x.instant t.instant) same ∙ not_earlier_itself x.instant in
        not_later_at k i r x z w
  ];
}

pub step-stays : (test : Indexed → Bool) (all : List Indexed) (i p : ℕ) (x y : Indexed) → IsBestBelow test all i p
    → slice_get all i ≡ Some x → slice_get all p ≡ Some y → is_earlier x.instant y.instant ≡ true
    → IsBestBelow test all (i + 1) p
step-stays test all i p x y best e f before = record {
  it = best.it;
  within = let h : p < i = best.within in omega arith;
  is_present = best.is_present;
  passes = best.passes;
  last = λ k r lt g goes. elim (cases_lt k i) [
    | inl low ↦ best.last k r low g goes
    | inr high ↦
        let z : k ≡ i = omega arith in
        let same : r ≡ x = same_at all k i r x z g e in
        let there : best.it ≡ y = same_at all p p best.it y refl best.is_present f in
        let first : is_earlier r.instant best.it.instant ≡ true =
        ap (λ (t : Indexed). is_earlier t.instant best.it.instant) same
        ∙ (ap (λ (t : Indexed). is_earlier x.instant t.instant) there ∙ before) in
        not_later_if_earlier k p r best.it first
  ];
}

-- one more place for list_any
pub list_any-step : (t : Indexed → Bool) (all : List Indexed) (i : ℕ) (x : Indexed) → slice_get all i ≡ Some x
    → list_any t (take (i + 1) all) ≡ (list_any t (take i all) || t x)
list_any-step t all i x e =
    list_any_more t all i x (slice_get_within all i x e)
    ∙ ap (λ (y : Indexed). list_any t (take i all) || t y) (get_or_from_slice_get all i x x e)

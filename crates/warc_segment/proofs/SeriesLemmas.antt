-- The least absent number, and the members in their order.
use Rattle.std.proofs.Common.{◌≡◌, ◌⊎◌, inl, inr, ℕ, zero, suc, ◌+◌, ◌-◌, ◌<◌, ◌≤◌, Bool, true, false, ◌==◌, cond, List, [], ◌∷◌, length, map, Option, Some, None, slice_get, refl, sym, ◌∙◌, ap, subst, arith, true≢false}
use Rattle.std.specs.Prelude.{min, filter}
use Rattle.std.specs.List.{filter_map, cons_option, range_with_len}
use Rattle.std.proofs.lemmas.Bool.{cases_Bool, cases_eq, cases_lt, eqb-true}
use Rattle.std.proofs.lemmas.Bool.Decides.{nat_tests}
use Rattle.std.proofs.lemmas.List.Sums.{sum_by-cons}
use Rattle.warc_segment.specs.Series.{Member, count_numbered, member_numbered, in_order}
use Rattle.warc_segment.specs.Gaps.{lesser, least, is_absent, least_absent}
use Rattle.warc_segment.specs.SeriesLaws.{IsLeastAbsent, LeastAbsentIsFirst, InOrderIsEach}

-- ---- the least number that passes

-- a number is in a list
abbrev IsReadSoFar : List ℕ → ℕ → Type 0
IsReadSoFar ks k = (i : ℕ) × (slice_get ks i ≡ Some k)

-- k passes, and no number of the list that passes is less
pub record IsLeastOf (test : ℕ → Bool) (ks : List ℕ) (k : ℕ) : Type 0 where
  pub passes : test k ≡ true
  pub least : (j : ℕ) → IsReadSoFar ks j → test j ≡ true → k ≤ j

abbrev NoneOf : (ℕ → Bool) → List ℕ → Type 0
NoneOf test ks = (j : ℕ) → IsReadSoFar ks j → test j ≡ false

-- what the least of those that pass is
abbrev LeastIs : (ℕ → Bool) → List ℕ → Option ℕ → Type 0
LeastIs test ks None = NoneOf test ks
LeastIs test ks (Some k) = IsLeastOf test ks k

is_present_cases : (k : ℕ) (ks : List ℕ) (j : ℕ) → IsReadSoFar (k ∷ ks) j → (j ≡ k) ⊎ IsReadSoFar ks j
is_present_cases k ks j (zero, e) = inl (cc)
is_present_cases k ks j (suc i, e) = inr (i, e)

least_skip : (test : ℕ → Bool) (k : ℕ) (ks : List ℕ) (o : Option ℕ) → test k ≡ false → LeastIs test ks o
    → LeastIs test (k ∷ ks) o
least_skip test k ks None miss none = λ j at. elim (is_present_cases k ks j at) [
  | inl here ↦ ap test here ∙ miss
  | inr later ↦ none j later
]
least_skip test k ks (Some n) miss is = record {
  passes = is.passes;
  least = λ j at hit. elim (is_present_cases k ks j at) [
    | inl here ↦ absurd (true≢false (sym hit ∙ (ap test here ∙ miss)))
    | inr later ↦ is.least j later hit
  ];
}

least_take : (test : ℕ → Bool) (k : ℕ) (ks : List ℕ) (o : Option ℕ) → test k ≡ true → LeastIs test ks o
    → LeastIs test (k ∷ ks) (lesser (Some k) o)
least_take test k ks None hit none = record {
  passes = hit;
  least = λ j at passes. elim (is_present_cases k ks j at) [
    | inl here ↦ omega arith
    | inr later ↦ absurd (true≢false (sym passes ∙ none j later))
  ];
}
least_take test k ks (Some n) hit is = record {
  passes = elim (cases_lt k n) [
    | inl less ↦ let e : min k n ≡ k = omega arith in ap test e ∙ hit
    | inr more ↦ let e : min k n ≡ n = omega arith in ap test e ∙ is.passes
  ];
  least = λ j at passes. elim (is_present_cases k ks j at) [
    | inl here ↦ omega arith
    | inr later ↦ let below : n ≤ j = is.least j later passes in omega arith
  ];
}

least_of : (test : ℕ → Bool) (ks : List ℕ) → LeastIs test ks (least (filter test ks))
least_of test [] = λ j at. by_place j at.0 at.1
  where
    by_place : (j i : ℕ) → slice_get [] i ≡ Some j → test j ≡ false
    by_place j i e = absurd (cc)
least_of test (k ∷ ks) = elim (cases_Bool (test k)) [
  | inl hit ↦
      let here : filter test (k ∷ ks) ≡ k ∷ filter test ks = ap (λ (b : Bool). cond b (k
      ∷ filter test ks) (filter test ks)) hit in
      subst (LeastIs test (k
      ∷ ks)) (sym (ap least here)) (least_take test k ks (least (filter test ks)) hit (least_of test ks))
  | inr miss ↦
      let gone : filter test (k ∷ ks) ≡ filter test ks = ap (λ (b : Bool). cond b (k
      ∷ filter test ks) (filter test ks)) miss in
      subst (LeastIs test (k
      ∷ ks)) (sym (ap least gone)) (least_skip test k ks (least (filter test ks)) miss (least_of test ks))
]

-- ---- the least absent number

abbrev after : List Member → List ℕ
after members = map (λ m. m.number + 1) members

abbrev candidates : List Member → List ℕ
candidates members = 2 ∷ after members

-- a number that a member has is followed by a candidate
counted_is_present : (members : List Member) (k : ℕ) → (count_numbered k members == 0) ≡ false → IsReadSoFar (after members) (k + 1)
counted_is_present [] k some = absurd (true≢false some)
counted_is_present (m ∷ members) k some = elim (cases_Bool (m.number == k)) [
  | inl here ↦ let is : m.number ≡ k = eqb-true m.number k here in (0, ap (λ (n : ℕ). Some (n + 1)) is)
  | inr gone ↦
      let one : Member → ℕ = λ (x : Member). cond (x.number == k) 1 0 in
      let split : count_numbered k (m ∷ members)
      ≡ cond (m.number == k) 1 0 + count_numbered k members = sum_by-cons one m members in
      let none : 0 + count_numbered k members ≡ count_numbered k members = omega arith in
      let same : count_numbered k (m ∷ members) ≡ count_numbered k members = split
      ∙ (ap (λ (b : Bool). cond b 1 0 + count_numbered k members) gone ∙ none) in
      let later : IsReadSoFar (after members) (k + 1) = counted_is_present members k (ap (λ (n : ℕ). n == 0) (sym same)
      ∙ some) in
      (suc later.0, later.1)
]

-- a number after the end isn't absent
not_past : (n : ℕ) (members : List Member) (j : ℕ) → n < j → is_absent n members j ≡ false
not_past n members j past = grind (arith, nat_tests)

-- below the least candidate that is absent, no number is
none_before : (n : ℕ) (members : List Member) (k : ℕ) → ((j : ℕ) → IsReadSoFar (candidates members) j
    → is_absent n members j ≡ true → k ≤ j)
    → (j : ℕ) → j < k → is_absent n members j ≡ false
none_before n members k first j below = elim (cases_Bool (is_absent n members j)) [
  | inr no_gap ↦ no_gap
  | inl gap ↦ absurd (by_number j below gap)
]
  where
    by_number : (j : ℕ) → j < k → is_absent n members j ≡ true → ⊥
    by_number zero below gap = grind (arith, nat_tests)
    by_number (suc i) below gap = elim (cases_lt i 1) [
      | inl few ↦ grind (arith, nat_tests)
      | inr some ↦ elim (cases_eq i 1) [
        | inl one ↦
            let two : suc i ≡ 2 = omega arith in
            let le : k ≤ suc i = first (suc i) (0, ap Some (sym two)) gap in
            omega arith
        | inr more ↦ elim (cases_Bool (is_absent n members i)) [
          | inl before ↦ by_number i (omega arith) before
          | inr present ↦ elim (cases_Bool (count_numbered i members == 0)) [
            | inl none ↦ grind (arith, nat_tests)
            | inr counted ↦
                let next : i + 1 ≡ suc i = omega arith in
                let at : IsReadSoFar (after members) (i + 1) = counted_is_present members i counted in
                let le : k ≤ suc i = first (suc i) (suc at.0, at.1 ∙ ap Some next) gap in
                omega arith
          ]
        ]
      ]
    ]

least_absent_is : (n : ℕ) (members : List Member) (o : Option ℕ) → least_absent n members ≡ o
    → LeastIs (is_absent n members) (candidates members) o
least_absent_is n members o e =
    let test : ℕ → Bool = is_absent n members in
    subst (LeastIs test (candidates members)) e (least_of test (candidates members))

none_absent : (n : ℕ) (members : List Member) → least_absent n members ≡ None → (k : ℕ)
    → is_absent n members k ≡ false
none_absent n members e k =
    let none : NoneOf (is_absent n members) (candidates members) = least_absent_is n members None e in
    none_before n members (suc k) (λ j at hit. absurd (true≢false (sym hit ∙ none j at))) k (omega arith)

least_absent_when : (n : ℕ) (members : List Member) (k : ℕ) → least_absent n members ≡ Some k
    → IsLeastAbsent n members k
least_absent_when n members k e =
    let is : IsLeastOf (is_absent n members) (candidates members) k = least_absent_is n members (Some k) e in
    record { absent = is.passes; first = none_before n members k is.least }

is_least_absent : (n : ℕ) (members : List Member) (k : ℕ) → IsLeastAbsent n members k
    → least_absent n members ≡ Some k
is_least_absent n members k is = by_least (least_absent n members) refl
  where
    by_least : (o : Option ℕ) → least_absent n members ≡ o → least_absent n members ≡ Some k
    by_least None e = absurd (true≢false (sym is.absent ∙ none_absent n members e k))
    by_least (Some j) e =
        let other : IsLeastAbsent n members j = least_absent_when n members j e in
        elim (cases_lt j k) [
          | inl less ↦ absurd (true≢false (sym other.absent ∙ is.first j less))
          | inr more ↦ elim (cases_lt k j) [
            | inl past ↦ absurd (true≢false (sym is.absent ∙ other.first k past))
            | inr same ↦ let z : j ≡ k = omega arith in e ∙ ap Some z
          ]
        ]

-- where no candidate is absent, no number is
no_least : (n : ℕ) (members : List Member) → ((k : ℕ) → is_absent n members k ≡ false) → least_absent n members ≡ None
no_least n members none = by_least (least_absent n members) refl
  where
    by_least : (o : Option ℕ) → least_absent n members ≡ o → least_absent n members ≡ None
    by_least None e = e
    by_least (Some j) e = absurd (true≢false (sym (least_absent_when n members j e).absent ∙ none j))

pub least_absent_is_first : LeastAbsentIsFirst
least_absent_is_first n members = (
  λ k. (least_absent_when n members k, is_least_absent n members k),
  (none_absent n members, no_least n members),
)

-- ---- the members in their order

-- a number that a member has is found
counted_found : (members : List Member) (k : ℕ) → (count_numbered k members == 0) ≡ false
    → (m : Member) × (member_numbered members k ≡ Some m)
counted_found [] k some = absurd (true≢false some)
counted_found (m ∷ members) k some = elim (cases_Bool (m.number == k)) [
  | inl here ↦ (m, ap (λ (b : Bool). cond b (Some m) (member_numbered members k)) here)
  | inr gone ↦
      let one : Member → ℕ = λ (x : Member). cond (x.number == k) 1 0 in
      let split : count_numbered k (m ∷ members)
      ≡ cond (m.number == k) 1 0 + count_numbered k members = sum_by-cons one m members in
      let none : 0 + count_numbered k members ≡ count_numbered k members = omega arith in
      let same : count_numbered k (m ∷ members) ≡ count_numbered k members = split
      ∙ (ap (λ (b : Bool). cond b 1 0 + count_numbered k members) gone ∙ none) in
      let later = counted_found members k (ap (λ (n : ℕ). n == 0) (sym same) ∙ some) in
      (later.0, ap (λ (b : Bool). cond b (Some m) (member_numbered members k)) gone ∙ later.1)
]

present_found : (n : ℕ) (members : List Member) (k : ℕ) → is_absent n members k ≡ false → 2 ≤ k → k ≤ n
    → (m : Member) × (member_numbered members k ≡ Some m)
present_found n members k present low high = counted_found members k (elim (cases_Bool (count_numbered k members == 0)) [
  | inr some ↦ some
  | inl none ↦ let gap : is_absent n members k ≡ true = grind (arith, nat_tests) in absurd (true≢false (sym gap
      ∙ present))
])

-- all that h gives from a on, c numbers
pub record AreFrom (h : ℕ → Option Member) (a c : ℕ) (members : List Member) : Type 0 where
  pub count : length members ≡ c
  pub each : (i : ℕ) (m : Member) → slice_get members i ≡ Some m → h (i + a) ≡ Some m

from_first : (h : ℕ → Option Member) (a c : ℕ) (m : Member) → h a ≡ Some m
    → filter_map h (range_with_len a (suc c)) ≡ m ∷ filter_map h (range_with_len (a + 1) c)
from_first h a c m e = ap (λ (o : Option Member). cons_option o (filter_map h (range_with_len (a + 1) c))) e

all_from : (h : ℕ → Option Member) (a c : ℕ) → ((k : ℕ) → a ≤ k → k < a + c → (m : Member) × (h k ≡ Some m))
    → AreFrom h a c (filter_map h (range_with_len a c))
all_from h a zero there = record { count = refl; each = λ i m e. absurd (cc) }
all_from h a (suc c) there =
    let first = there a (omega arith) (omega arith) in
    let later : AreFrom h (a + 1) c (filter_map h (range_with_len (a + 1) c)) =
    all_from h (a + 1) c (λ k low high. there k (omega arith) (omega arith)) in
    subst (AreFrom h a (suc c)) (sym (from_first h a c first.0 first.1)) (with_first first.0 first.1 later)
  where
    each_of : (m : Member) → h a ≡ Some m → AreFrom h (a + 1) c (filter_map h (range_with_len (a + 1) c))
        → (i : ℕ) (x : Member)
        → slice_get (m ∷ filter_map h (range_with_len (a + 1) c)) i ≡ Some x → h (i + a) ≡ Some x
    each_of m e later zero x f = let z : 0 + a ≡ a = omega arith in ap h z ∙ (e ∙ f)
    each_of m e later (suc i) x f = let z : suc i + a ≡ i + (a + 1) = omega arith in ap h z ∙ later.each i x f

    with_first : (m : Member) → h a ≡ Some m → AreFrom h (a + 1) c (filter_map h (range_with_len (a + 1) c))
        → AreFrom h a (suc c) (m ∷ filter_map h (range_with_len (a + 1) c))
    with_first m e later = record {
      count = (let n : length (filter_map h (range_with_len (a + 1) c))
          ≡ c = later.count in omega arith);
      each = each_of m e later;
    }

only_from : (h : ℕ → Option Member) (a c : ℕ) (members : List Member) → AreFrom h a c members
    → filter_map h (range_with_len a c) ≡ members
only_from h a zero [] is = refl
only_from h a zero (m ∷ members) is = let n : length (m ∷ members) ≡ 0 = is.count in absurd (omega arith)
only_from h a (suc c) [] is = let n : length {A = Member} [] ≡ suc c = is.count in absurd (omega arith)
only_from h a (suc c) (m ∷ members) is =
    let z : 0 + a ≡ a = omega arith in
    let first : h a ≡ Some m = ap h (sym z) ∙ is.each 0 m refl in
    let n : length (m ∷ members) ≡ suc c = is.count in
    let rest : AreFrom h (a + 1) c members = record {
      count = omega arith;
      each = λ i x e. let w : i + (a + 1) ≡ suc i + a = omega arith in ap h w ∙ is.each (suc i) x e;
    } in
    from_first h a c m first ∙ ap (λ (ms : List Member). m ∷ ms) (only_from h (a + 1) c members rest)

pub in_order_is_each : InOrderIsEach
in_order_is_each n members = (
  (λ none.
      let all : AreFrom (member_numbered members) 2 (n - 1) (in_order n members) =
      all_from (member_numbered members) 2 (n - 1)
      (λ k low high. present_found n members k (none_absent n members none k) low (omega arith)) in
      record { count = all.count; each = all.each }),
  (λ others is. only_from (member_numbered members) 2 (n - 1) others (record { count = is.count; each = is.each })),
)

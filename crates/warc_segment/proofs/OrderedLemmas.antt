-- The gaps of a series whose members are in the order of their numbers.
use Rattle.std.proofs.Common.{◌≡◌, ◌≢◌, inl, inr, ℕ, zero, suc, ◌+◌, ◌-◌, ◌<◌, ◌≤◌, Bool, true, false, cond, ◌&&◌, ◌==◌, List, [], ◌∷◌, length, get_or, map, Option, Some, None, option_map, slice_get, refl, sym, ◌∙◌, ap, arith}
use Rattle.std.specs.Prelude.{filter, find, nat_le, nat_lt, is_some, nat_eq, sum_by, option_and_then}
use Rattle.std.specs.Option.{option_or, option_eq, option_map_or}
use Rattle.std.proofs.lemmas.Bool.{cases_Bool, cases_lt, and_from, and_left, and_right}
use Rattle.std.proofs.lemmas.Bool.Decides.{nat_tests}
use Rattle.std.proofs.lemmas.List.{length-map}
use Rattle.std.proofs.lemmas.Option.{slice_get-get_or, slice_get-map, slice_get_within, get_or_from_slice_get}
use Rattle.warc_segment.specs.declared.gap.Gap.TheVariants.{Repeated, Unfinished, AfterEnd, Absent, Total}
use Rattle.warc_segment.specs.Series.{Member, count_numbered, numbers_of, member_numbered, in_order}
use Rattle.warc_segment.specs.Gaps.{least, least_repeated, end_of, least_after, is_absent, least_absent, has_total, absent_or_total, gap_to, gap_of, followers}
use Rattle.warc_segment.specs.Ordered.{AreOrdered, Rises, CountsUp, NoTotal, IsEnd}
use Rattle.warc_segment.proofs.LeastLemmas.{IsReadSoFar, is_present_filter, is_present_map, map_is_present, filter_hit, filter_miss, Up, least_front, least_sorted, first_found, none_found}
use Rattle.warc_segment.proofs.CountLemmas.{times, count_is_times, at_once, at_twice, once_at, twice_at, OccursTwice}
use Rattle.warc_segment.proofs.SeriesLemmas.{in_order_is_each}

-- ---- lists that don't fall

up_tail : (k : ℕ) (ks : List ℕ)
    → ((i j : ℕ) → i ≤ j → j < length (k ∷ ks) → get_or (k ∷ ks) i 0 ≤ get_or (k ∷ ks) j 0)
    → (i j : ℕ) → i ≤ j → j < length ks → get_or ks i 0 ≤ get_or ks j 0
up_tail k ks up i j le within = up (suc i) (suc j) (omega arith) (omega arith)

up_from : (ks : List ℕ) → ((i j : ℕ) → i ≤ j → j < length ks → get_or ks i 0 ≤ get_or ks j 0) → Up ks
up_from [] up = tt
up_from (k ∷ ks) up = (
  (λ j at.
      let within : at.0 < length ks = slice_get_within ks at.0 j at.1 in
      let is : get_or ks at.0 0 ≡ j = get_or_from_slice_get ks at.0 j 0 at.1 in
      let le : k ≤ get_or ks at.0 0 = up 0 (suc at.0) (omega arith) (omega arith) in
      omega arith),
  up_from ks (up_tail k ks up),
)

-- the number at a place
number_is_present : (ks : List ℕ) (i : ℕ) → i < length ks → slice_get ks i ≡ Some (get_or ks i 0)
number_is_present ks i within = slice_get-get_or ks i 0 within

-- two places of one number, and all between, hold it
apart_from_twice : (ks : List ℕ) (k : ℕ) → AreOrdered ks → OccursTwice k ks
    → (p : ℕ) × (p + 1 < length ks) × (get_or ks p 0 ≡ k) × (get_or ks (p + 1) 0 ≡ k)
apart_from_twice ks k ordered twice =
    let p : ℕ = twice.early in
    let q : ℕ = twice.late in
    let less : p < q = twice.order in
    let within : q < length ks = slice_get_within ks q k twice.again in
    let first : get_or ks p 0 ≡ k = get_or_from_slice_get ks p k 0 twice.first in
    let again : get_or ks q 0 ≡ k = get_or_from_slice_get ks q k 0 twice.again in
    let a : get_or ks p 0 ≤ get_or ks (p + 1) 0 = ordered.up p (p + 1) (omega arith) (omega arith) in
    let b : get_or ks (p + 1) 0 ≤ get_or ks q 0 = ordered.up (p + 1) q (omega arith) (omega arith) in
    (p, omega arith, first, omega arith)

-- ---- G1

abbrev is_present_twice : List Member → ℕ → Bool
is_present_twice members k = nat_le 2 (count_numbered k members)

twice_of : (members : List Member) (k : ℕ) → is_present_twice members k ≡ true → OccursTwice k (numbers_of members)
twice_of members k hit =
    let c : count_numbered k members ≡ times k (numbers_of members) = count_is_times k members in
    let le : 2 ≤ count_numbered k members = grind (arith, nat_tests) in
    twice_at k (numbers_of members) (omega arith)

-- where the numbers before a place rise, none of them is twice
once_before : (members : List Member) (i k : ℕ) → AreOrdered (numbers_of members) → Rises (numbers_of members) (i + 1)
    → k < i → k < length (numbers_of members) → is_present_twice members (get_or (numbers_of members) k 0) ≡ false
once_before members i k ordered rises less within =
    let ks : List ℕ = numbers_of members in
    elim (cases_Bool (is_present_twice members (get_or ks k 0))) [
      | inr miss ↦ miss
      | inl hit ↦
          let at = apart_from_twice ks (get_or ks k 0) ordered (twice_of members (get_or ks k 0) hit) in
          let p : ℕ = at.0 in
          let in_ks : p + 1 < length ks = at.1 in
          let first : get_or ks p 0 ≡ get_or ks k 0 = at.2 in
          let again : get_or ks (p + 1) 0 ≡ get_or ks k 0 = at.3 in
          elim (cases_lt p i) [
            | inl early ↦ absurd (rises.apart p (omega arith) (first ∙ sym again))
            | inr late ↦
                let up : get_or ks k 0 ≤ get_or ks (k + 1) 0 = ordered.up k (k + 1) (omega arith) (omega arith) in
                let more : get_or ks (k + 1) 0 ≤ get_or ks p 0 = ordered.up (k + 1) p (omega arith) (omega arith) in
                let same : get_or ks k 0 ≡ get_or ks (k + 1) 0 = omega arith in
                absurd (rises.apart k (omega arith) same)
          ]
    ]

pub first_repeated : (members : List Member) (i : ℕ) → AreOrdered (numbers_of members)
    → Rises (numbers_of members) (i + 1) → i + 1 < length (numbers_of members)
    → get_or (numbers_of members) i 0 ≡ get_or (numbers_of members) (i + 1) 0
    → least_repeated members ≡ Some (get_or (numbers_of members) i 0)
first_repeated members i ordered rises within same =
    let ks : List ℕ = numbers_of members in
    let k : ℕ = get_or ks i 0 in
    let here : slice_get ks i ≡ Some k = number_is_present ks i (omega arith) in
    let next : slice_get ks (i + 1) ≡ Some k = number_is_present ks (i + 1) within ∙ ap Some (sym same) in
    let two : 2 ≤ times k ks = at_twice k ks i (i + 1) (omega arith) here next in
    let c : count_numbered k members ≡ times k ks = count_is_times k members in
    let hit : is_present_twice members k ≡ true = grind (arith, nat_tests) in
    least_sorted (is_present_twice members) ks (up_from ks ordered.up)
    ∙ first_found (is_present_twice members) ks i 0 (omega arith)
    (λ j less. once_before members i j ordered rises less (omega arith)) hit

pub none_repeated : (members : List Member) → AreOrdered (numbers_of members)
    → Rises (numbers_of members) (length (numbers_of members)) → least_repeated members ≡ None
none_repeated members ordered rises =
    let ks : List ℕ = numbers_of members in
    least_sorted (is_present_twice members) ks (up_from ks ordered.up)
    ∙ none_found (is_present_twice members) ks 0 (λ k within. elim (cases_Bool (is_present_twice members (get_or ks k 0))) [
      | inr miss ↦ miss
      | inl hit ↦
          let at = apart_from_twice ks (get_or ks k 0) ordered (twice_of members (get_or ks k 0) hit) in
          absurd (rises.apart at.0 at.1 (at.2 ∙ sym at.3))
    ])

-- ---- G2

abbrev has_a_total : Member → Bool
has_a_total m = is_some m.total

end_is_first : (members : List Member) → Up (numbers_of members)
    → end_of members ≡ option_map (λ m. m.number) (find has_a_total members)
end_is_first [] up = refl
end_is_first (m ∷ members) up = elim (cases_Bool (has_a_total m)) [
  | inl hit ↦
      ap (λ (ms : List Member). least (numbers_of ms)) (filter_hit has_a_total m members hit)
      ∙ (least_front m.number (numbers_of (filter has_a_total members)) (λ j at.
      let from = is_present_map (λ (x : Member). x.number) (filter has_a_total members) j at in
      let there : IsReadSoFar members from.0 = (is_present_filter has_a_total members from.0 from.1).0 in
      let number : IsReadSoFar (numbers_of members) from.0.number =
      map_is_present (λ (x : Member). x.number) members from.0 there in
      let le : m.number ≤ from.0.number = up.0 from.0.number number in
      let is : from.0.number ≡ j = from.2 in
      omega arith)
      ∙ sym (ap (λ (b : Bool). option_map (λ (x : Member). x.number) (cond b (Some m)
      (find has_a_total members))) hit))
  | inr miss ↦
      ap (λ (ms : List Member). least (numbers_of ms)) (filter_miss has_a_total m members miss)
      ∙ (end_is_first members up.1
      ∙ sym (ap (λ (b : Bool). option_map (λ (x : Member). x.number) (cond b (Some m)
      (find has_a_total members))) miss))
]

length_numbers : (members : List Member) → length (numbers_of members) ≡ length members
length_numbers members = length-map members (λ m. m.number)

-- a member's number is where the member does
number_at : (members : List Member) (i : ℕ) (m : Member) → slice_get members i ≡ Some m
    → get_or (numbers_of members) i 0 ≡ m.number
number_at members i m at =
    get_or_from_slice_get (numbers_of members) i m.number 0
    (slice_get-map (λ (x : Member). x.number) members i ∙ ap (option_map (λ (x : Member). x.number)) at)

numbers_at : (members : List Member) (i : ℕ) (d : Member) → i < length members
    → (get_or members i d).number ≡ get_or (numbers_of members) i 0
numbers_at members i d within = sym (number_at members i (get_or members i d) (slice_get-get_or members i d within))

without_total : (members : List Member) (i : ℕ) (d : Member) → NoTotal members i → (k : ℕ) → k < i
    → k < length members
    → has_a_total (get_or members k d) ≡ false
without_total members i d none k less within =
    ap is_some (none.none k (get_or members k d) less (slice_get-get_or members k d within))

pub end_found : (members : List Member) (i total : ℕ) → AreOrdered (numbers_of members) → IsEnd members i total
    → end_of members ≡ Some (get_or (numbers_of members) i 0)
end_found members i total ordered end =
    let it : Member = end.it in
    let within : i < length members = slice_get_within members i it end.is_present in
    let is : get_or members i it ≡ it = get_or_from_slice_get members i it it end.is_present in
    let hit : has_a_total (get_or members i it) ≡ true = ap has_a_total is ∙ ap is_some end.states in
    let found : find has_a_total members ≡ Some (get_or members i it) =
    first_found has_a_total members i it within
    (λ k less. without_total members i it end.first k less (omega arith)) hit in
    end_is_first members (up_from (numbers_of members) ordered.up)
    ∙ (ap (option_map (λ (x : Member). x.number)) (found ∙ ap Some is)
    ∙ ap Some (sym (number_at members i it end.is_present)))

pub no_end : (members : List Member) → AreOrdered (numbers_of members) → NoTotal members (length members)
    → end_of members ≡ None
no_end [] ordered none = refl
no_end (m ∷ members) ordered none =
    let all : List Member = m ∷ members in
    end_is_first all (up_from (numbers_of all) ordered.up)
    ∙ ap (option_map (λ (x : Member). x.number))
    (none_found has_a_total all m (λ k within. without_total all (length all) m none k within within))

-- ---- G3

pub strict : (ks : List ℕ) → AreOrdered ks → Rises ks (length ks) → (i j : ℕ) → i < j → j < length ks
    → get_or ks i 0 < get_or ks j 0
strict ks ordered rises i j less within =
    let apart : get_or ks i 0 ≢ get_or ks (i + 1) 0 = rises.apart i (omega arith) in
    let a : get_or ks i 0 ≤ get_or ks (i + 1) 0 = ordered.up i (i + 1) (omega arith) (omega arith) in
    let b : get_or ks (i + 1) 0 ≤ get_or ks j 0 = ordered.up (i + 1) j (omega arith) within in
    omega arith

not_after : (ks : List ℕ) (i k : ℕ) → AreOrdered ks → k ≤ i → i < length ks
    → nat_lt (get_or ks i 0) (get_or ks k 0) ≡ false
not_after ks i k ordered le within =
    let up : get_or ks k 0 ≤ get_or ks i 0 = ordered.up k i le within in
    grind (arith, nat_tests)

pub next_after : (members : List Member) (i : ℕ) → AreOrdered (numbers_of members)
    → Rises (numbers_of members) (length (numbers_of members)) → i + 1 < length (numbers_of members)
    → least_after (get_or (numbers_of members) i 0) members ≡ Some (get_or (numbers_of members) (i + 1) 0)
next_after members i ordered rises within =
    let ks : List ℕ = numbers_of members in
    let more : get_or ks i 0 < get_or ks (i + 1) 0 = strict ks ordered rises i (i + 1) (omega arith) within in
    let hit : nat_lt (get_or ks i 0) (get_or ks (i + 1) 0) ≡ true = grind (arith, nat_tests) in
    least_sorted (nat_lt (get_or ks i 0)) ks (up_from ks ordered.up)
    ∙ first_found (nat_lt (get_or ks i 0)) ks (i + 1) 0 within
    (λ k less. not_after ks i k ordered (omega arith) (omega arith)) hit

pub none_after : (members : List Member) (i : ℕ) → AreOrdered (numbers_of members)
    → i + 1 ≡ length (numbers_of members) → least_after (get_or (numbers_of members) i 0) members ≡ None
none_after members i ordered last =
    let ks : List ℕ = numbers_of members in
    least_sorted (nat_lt (get_or ks i 0)) ks (up_from ks ordered.up)
    ∙ none_found (nat_lt (get_or ks i 0)) ks 0 (λ k within. not_after ks i k ordered (omega arith) (omega arith))

-- ---- G4

abbrev after_each : List Member → List ℕ
after_each members = map (λ m. m.number + 1) members

after_at : (members : List Member) (j : ℕ) → j < length members
    → get_or (after_each members) j 0 ≡ get_or (numbers_of members) j 0 + 1
after_at [] j within = absurd (omega arith)
after_at (m ∷ members) zero within = refl
after_at (m ∷ members) (suc j) within = after_at members j (omega arith)

candidates_up : (members : List Member) → AreOrdered (numbers_of members)
    → (p q : ℕ) → p ≤ q → q < length (2 ∷ after_each members)
    → get_or (2 ∷ after_each members) p 0 ≤ get_or (2 ∷ after_each members) q 0
candidates_up members ordered zero zero le within = omega arith
candidates_up members ordered zero (suc q) le within =
    let n : length (after_each members) ≡ length members = length-map members (λ m. m.number + 1) in
    let k : length (numbers_of members) ≡ length members = length_numbers members in
    let e : get_or (after_each members) q 0 ≡ get_or (numbers_of members) q 0 + 1 =
    after_at members q (omega arith) in
    let two : 2 ≤ get_or (numbers_of members) q 0 = ordered.from_two q (omega arith) in
    omega arith
candidates_up members ordered (suc p) zero le within = absurd (omega arith)
candidates_up members ordered (suc p) (suc q) le within =
    let n : length (after_each members) ≡ length members = length-map members (λ m. m.number + 1) in
    let k : length (numbers_of members) ≡ length members = length_numbers members in
    let e : get_or (after_each members) p 0 ≡ get_or (numbers_of members) p 0 + 1 =
    after_at members p (omega arith) in
    let f : get_or (after_each members) q 0 ≡ get_or (numbers_of members) q 0 + 1 =
    after_at members q (omega arith) in
    let up : get_or (numbers_of members) p 0 ≤ get_or (numbers_of members) q 0 =
    ordered.up p q (omega arith) (omega arith) in
    omega arith

candidate_is : (members : List Member) (i j : ℕ) → CountsUp (numbers_of members) i → j ≤ i → j ≤ length members
    → get_or (2 ∷ after_each members) j 0 ≡ j + 2
candidate_is members i zero counts le within = refl
candidate_is members i (suc j) counts le within =
    let e : get_or (after_each members) j 0 ≡ get_or (numbers_of members) j 0 + 1 =
    after_at members j (omega arith) in
    let n : get_or (numbers_of members) j 0 ≡ j + 2 = counts.next j (omega arith) in
    omega arith

present_at : (n : ℕ) (members : List Member) (j k : ℕ) → j < length (numbers_of members)
    → get_or (numbers_of members) j 0 ≡ k → is_absent n members k ≡ false
present_at n members j k within is =
    let one : 1 ≤ times k (numbers_of members) =
    at_once k (numbers_of members) j (number_is_present (numbers_of members) j within ∙ ap Some is) in
    let c : count_numbered k members ≡ times k (numbers_of members) = count_is_times k members in
    let some : (count_numbered k members == 0) ≡ false = grind (arith, nat_tests) in
    and_right (nat_le 2 k && nat_le k n) (count_numbered k members == 0) some

past_end : (n : ℕ) (members : List Member) (k : ℕ) → n < k → is_absent n members k ≡ false
past_end n members k past =
    let off : nat_le k n ≡ false = grind (arith, nat_tests) in
    and_left (nat_le 2 k && nat_le k n) (count_numbered k members == 0) (and_right (nat_le 2 k) (nat_le k n) off)

-- the number at a place isn't the next one, and nothing after the place has that one
missing_at : (members : List Member) (i : ℕ) → AreOrdered (numbers_of members)
    → Rises (numbers_of members) (length (numbers_of members)) → CountsUp (numbers_of members) i
    → i < length (numbers_of members) → get_or (numbers_of members) i 0 ≢ i + 2
    → i + 2 < get_or (numbers_of members) i 0
missing_at members zero ordered rises counts within other =
    let two : 2 ≤ get_or (numbers_of members) 0 0 = ordered.from_two 0 within in
    omega arith
missing_at members (suc i) ordered rises counts within other =
    let ks : List ℕ = numbers_of members in
    let before : get_or ks i 0 ≡ i + 2 = counts.next i (omega arith) in
    let more : get_or ks i 0 < get_or ks (suc i) 0 = strict ks ordered rises i (suc i) (omega arith) within in
    omega arith

missing_count : (members : List Member) (i : ℕ) → AreOrdered (numbers_of members)
    → CountsUp (numbers_of members) i → i < length (numbers_of members) → i + 2 < get_or (numbers_of members) i 0
    → (count_numbered (i + 2) members == 0) ≡ true
missing_count members i ordered counts within more =
    let ks : List ℕ = numbers_of members in
    elim (cases_Bool (count_numbered (i + 2) members == 0)) [
      | inl none ↦ none
      | inr some ↦
          let c : count_numbered (i + 2) members ≡ times (i + 2) ks = count_is_times (i + 2) members in
          let one : 1 ≤ times (i + 2) ks = grind (arith, nat_tests) in
          let at = once_at (i + 2) ks one in
          let p : ℕ = at.0 in
          let in_ks : p < length ks = slice_get_within ks p (i + 2) at.1 in
          let is : get_or ks p 0 ≡ i + 2 = get_or_from_slice_get ks p (i + 2) 0 at.1 in
          elim (cases_lt p i) [
            | inl early ↦ let next : get_or ks p 0 ≡ p + 2 = counts.next p early in absurd (omega arith)
            | inr late ↦ let up : get_or ks i 0 ≤ get_or ks p 0 = ordered.up i p late in_ks in absurd (omega arith)
          ]
    ]

pub first_absent : (members : List Member) (i : ℕ) → AreOrdered (numbers_of members)
    → Rises (numbers_of members) (length (numbers_of members)) → CountsUp (numbers_of members) i
    → i < length (numbers_of members) → get_or (numbers_of members) i 0 ≢ i + 2
    → least_absent (get_or (numbers_of members) (length (numbers_of members) - 1) 0) members ≡ Some (i + 2)
first_absent members i ordered rises counts within other =
    let ks : List ℕ = numbers_of members in
    let n : ℕ = get_or ks (length ks - 1) 0 in
    let len : length ks ≡ length members = length_numbers members in
    let long : length (after_each members) ≡ length members = length-map members (λ m. m.number + 1) in
    let more : i + 2 < get_or ks i 0 = missing_at members i ordered rises counts within other in
    let le : get_or ks i 0 ≤ n = ordered.up i (length ks - 1) (omega arith) (omega arith) in
    let none : (count_numbered (i + 2) members == 0) ≡ true = missing_count members i ordered counts within more in
    let low : nat_le 2 (i + 2) ≡ true = grind (arith, nat_tests) in
    let high : nat_le (i + 2) n ≡ true = grind (arith, nat_tests) in
    let gap : is_absent n members (i + 2) ≡ true = and_from _ _ (and_from _ _ low high) none in
    let at : get_or (2 ∷ after_each members) i 0 ≡ i + 2 =
    candidate_is members i i counts (omega arith) (omega arith) in
    least_sorted (is_absent n members) (2 ∷ after_each members)
    (up_from (2 ∷ after_each members) (candidates_up members ordered))
    ∙ (first_found (is_absent n members) (2 ∷ after_each members) i 0 (omega arith)
    (λ k less. present_at n members k (get_or (2 ∷ after_each members) k 0) (omega arith)
    (counts.next k less ∙ sym (candidate_is members i k counts (omega arith) (omega arith))))
    (ap (is_absent n members) at ∙ gap)
    ∙ ap Some at)

pub none_absent_in : (members : List Member) → AreOrdered (numbers_of members)
    → CountsUp (numbers_of members) (length (numbers_of members)) → 0 < length (numbers_of members)
    → least_absent (get_or (numbers_of members) (length (numbers_of members) - 1) 0) members ≡ None
none_absent_in members ordered counts some =
    let ks : List ℕ = numbers_of members in
    let n : ℕ = get_or ks (length ks - 1) 0 in
    let len : length ks ≡ length members = length_numbers members in
    let long : length (after_each members) ≡ length members = length-map members (λ m. m.number + 1) in
    let last : n ≡ (length ks - 1) + 2 = counts.next (length ks - 1) (omega arith) in
    least_sorted (is_absent n members) (2 ∷ after_each members)
    (up_from (2 ∷ after_each members) (candidates_up members ordered))
    ∙ none_found (is_absent n members) (2 ∷ after_each members) 0 (λ k within.
    let at : get_or (2 ∷ after_each members) k 0 ≡ k + 2 =
    candidate_is members (length ks) k counts (omega arith) (omega arith) in
    elim (cases_lt k (length ks)) [
      | inl early ↦ present_at n members k (get_or (2 ∷ after_each members) k 0) early (counts.next k early ∙ sym at)
      | inr late ↦ past_end n members (get_or (2 ∷ after_each members) k 0) (omega arith)
    ])

-- ---- G5

numbered_at : (members : List Member) (i : ℕ) (m : Member)
    → CountsUp (numbers_of members) (length (numbers_of members))
    → slice_get members i ≡ Some m → member_numbered members (i + 2) ≡ Some m
numbered_at members i m counts at =
    let len : length (numbers_of members) ≡ length members = length_numbers members in
    let within : i < length members = slice_get_within members i m at in
    let is : get_or members i m ≡ m = get_or_from_slice_get members i m m at in
    let here : (get_or members i m).number ≡ i + 2 = numbers_at members i m within ∙ counts.next i (omega arith) in
    first_found (λ (x : Member). x.number == (i + 2)) members i m within
    (λ k less.
    let there : (get_or members k m).number ≡ k + 2 =
    numbers_at members k m (omega arith) ∙ counts.next k (omega arith) in
    grind (arith, nat_tests))
    (grind (arith, nat_tests))
    ∙ ap Some is

pub all_in_order : (members : List Member) → CountsUp (numbers_of members) (length (numbers_of members))
    → in_order (length members + 1) members ≡ members
all_in_order members counts =
    (in_order_is_each (length members + 1) members).1 members (record {
      count = omega arith;
      each = λ i m at. numbered_at members i m counts at;
    })

last_is : (members : List Member) (i : ℕ) → CountsUp (numbers_of members) (length (numbers_of members))
    → i + 1 ≡ length (numbers_of members) → get_or (numbers_of members) i 0 ≡ length members + 1
last_is members i counts last =
    let len : length (numbers_of members) ≡ length members = length_numbers members in
    let is : get_or (numbers_of members) i 0 ≡ i + 2 = counts.next i (omega arith) in
    omega arith

pub total_is : (size : ℕ) (members : List Member) (i total : ℕ)
    → CountsUp (numbers_of members) (length (numbers_of members))
    → IsEnd members i total → i + 1 ≡ length (numbers_of members)
    → has_total (get_or (numbers_of members) i 0) size members ≡ (total == size + sum_by (λ m. m.size) members)
total_is size members i total counts end last =
    let n : get_or (numbers_of members) i 0 ≡ length members + 1 = last_is members i counts last in
    let len : length (numbers_of members) ≡ length members = length_numbers members in
    let z : length members + 1 ≡ i + 2 = omega arith in
    let at : member_numbered members (length members + 1) ≡ Some end.it =
    ap (member_numbered members) z ∙ numbered_at members i end.it counts end.is_present in
    let totals : option_and_then (λ (m : Member). m.total) (member_numbered members (length members + 1))
    ≡ Some total =
    ap (option_and_then (λ (m : Member). m.total)) at ∙ end.states in
    ap (λ (k : ℕ). has_total k size members) n
    ∙ (ap (λ (o : Option ℕ). option_eq nat_eq o (Some (size + sum_by (λ (m : Member). m.size) (in_order
    (length members + 1) members)))) totals
    ∙ ap (λ (ms : List Member). total == (size + sum_by (λ (m : Member). m.size) ms)) (all_in_order members counts))

-- ---- the gap

pub gap_repeated : (size k : ℕ) (members : List Member) → least_repeated members ≡ Some k
    → gap_of size members ≡ Some (Repeated k)
gap_repeated size k members e =
    ap (λ (o : Option ℕ). option_or (option_map Repeated o) (gap_to (end_of members) size members)) e

pub gap_following : (size : ℕ) (members : List Member) (end : Option ℕ) → least_repeated members ≡ None
    → end_of members ≡ end
    → gap_of size members ≡ gap_to end size members
gap_following size members end none e =
    ap (λ (o : Option ℕ). option_or (option_map Repeated o) (gap_to (end_of members) size members)) none
    ∙ ap (λ (o : Option ℕ). gap_to o size members) e

pub gap_unfinished : (size : ℕ) (members : List Member) → least_repeated members ≡ None → end_of members ≡ None
    → gap_of size members ≡ Some Unfinished
gap_unfinished size members none e = gap_following size members None none e

pub gap_after : (size n k : ℕ) (members : List Member) → least_repeated members ≡ None → end_of members ≡ Some n
    → least_after n members ≡ Some k → gap_of size members ≡ Some (AfterEnd k)
gap_after size n k members none e f =
    gap_following size members (Some n) none e
    ∙ ap (λ (o : Option ℕ). option_or (option_map AfterEnd o) (absent_or_total
    (least_absent n members) n size members)) f

gap_within : (size n : ℕ) (members : List Member) (missing : Option ℕ) → least_repeated members ≡ None
    → end_of members ≡ Some n → least_after n members ≡ None → least_absent n members ≡ missing
    → gap_of size members ≡ absent_or_total missing n size members
gap_within size n members missing none e f g =
    gap_following size members (Some n) none e
    ∙ (ap (λ (o : Option ℕ). option_or (option_map AfterEnd o) (absent_or_total
    (least_absent n members) n size members)) f
    ∙ ap (λ (o : Option ℕ). absent_or_total o n size members) g)

pub gap_absent : (size n k : ℕ) (members : List Member) → least_repeated members ≡ None → end_of members ≡ Some n
    → least_after n members ≡ None → least_absent n members ≡ Some k → gap_of size members ≡ Some (Absent k)
gap_absent size n k members none e f g = gap_within size n members (Some k) none e f g

pub gap_total : (size n : ℕ) (members : List Member) (right : Bool) → least_repeated members ≡ None
    → end_of members ≡ Some n → least_after n members ≡ None → least_absent n members ≡ None
    → has_total n size members ≡ right → gap_of size members ≡ cond right None (Some Total)
gap_total size n members right none e f g h =
    gap_within size n members None none e f g ∙ ap (λ (b : Bool). cond b None (Some Total)) h

pub followers_all : (members : List Member) (i : ℕ) → end_of members ≡ Some (get_or (numbers_of members) i 0)
    → CountsUp (numbers_of members) (length (numbers_of members)) → i + 1 ≡ length (numbers_of members)
    → followers members ≡ members
followers_all members i e counts last =
    ap (λ (o : Option ℕ). option_map_or (λ n. in_order n members) o []) (e ∙ ap Some (last_is members i counts last))
    ∙ all_in_order members counts

-- What is said of a series doesn't depend on the order in which its members are listed.
use Rattle.std.proofs.Common.{◌≡◌, inl, inr, ℕ, zero, suc, ◌+◌, ◌-◌, ◌<◌, ◌≤◌, Bool, true, false, cond, ◌&&◌, ◌==◌, List, [], ◌∷◌, map, Option, Some, None, option_map, slice_get, refl, sym, ◌∙◌, ap, subst, arith, true≢false, Ok}
use Rattle.std.specs.Prelude.{filter, find, nat_le, nat_lt, nat_eq, is_some, sum_by, count_by, option_and_then, ⊤, Contains, IsPermutation, remove}
use Rattle.std.specs.Option.{option_or, option_eq, option_map_or}
use Rattle.std.specs.List.{filter_map, cons_option, range_with_len}
use Rattle.std.proofs.lemmas.Bool.{cases_Bool, cases_lt, eqb-true}
use Rattle.std.proofs.lemmas.Bool.Decides.{nat_tests}
use Rattle.std.proofs.lemmas.List.Sorted.{IsPermutation-remove, Contains-permutation, sum_by-IsPermutation}
use Rattle.std.proofs.lemmas.List.Sums.{sum_by-cons}
use Rattle.std.proofs.lemmas.Option.{slice_get-get_or, slice_get_within, get_or_from_slice_get}
use Rattle.warc_segment.specs.declared.gap.Gap.{Gap}
use Rattle.warc_segment.specs.declared.gap.Gap.TheVariants.{Repeated, AfterEnd, Total}
use Rattle.warc_segment.specs.Series.{Member, count_numbered, numbers_of, member_numbered, in_order}
use Rattle.warc_segment.specs.Gaps.{least, least_repeated, end_of, least_after, is_absent, least_absent, has_total, absent_or_total, gap_to, gap_of, followers, unless_gap}
use Rattle.warc_segment.proofs.LeastLemmas.{IsReadSoFar, is_present_cases, is_present_nowhere, is_present_later, is_present_filter, filter_is_present, is_present_map, map_is_present, LeastIn, least_in, least_same}
use Rattle.warc_segment.proofs.CountLemmas.{times, count_is_times, once_at, at_twice}
use Rattle.warc_segment.proofs.OrderedLemmas.{gap_repeated, gap_following}

-- ---- lists without repetitions that hold the same

abbrev pub Distinct : {X : Type 0} → List X → Type 0
Distinct [] = ⊤
Distinct (x ∷ xs) = (IsReadSoFar xs x → ⊥) × Distinct xs

pub contains_is_present : {X : Type 0} (xs : List X) (x : X) → Contains xs x → IsReadSoFar xs x
contains_is_present xs x (k, within, is) = (k, slice_get-get_or xs k x within ∙ ap Some is)

pub is_present_contains : {X : Type 0} (xs : List X) (x : X) → IsReadSoFar xs x → Contains xs x
is_present_contains xs x (k, at) = (k, slice_get_within xs k x at, get_or_from_slice_get xs k x x at)

pub no_more : {X : Type 0} (p : X → Bool) (xs ys : List X) → Distinct xs → ((x : X) → IsReadSoFar xs x → IsReadSoFar ys x)
    → count_by p xs ≤ count_by p ys
no_more p [] ys distinct to = omega arith
no_more {X} p (x ∷ xs) ys distinct to =
    let at : Contains ys x = is_present_contains ys x (to x (0, refl)) in
    let rest : List X = remove ys at.0 in
    let moved : IsPermutation ys (x ∷ rest) = IsPermutation-remove ys at.0 x at.1 (sym at.2) in
    let one : X → ℕ = λ y. cond (p y) 1 0 in
    let same : count_by p (x ∷ rest) ≡ count_by p ys = sum_by-IsPermutation one ys (x ∷ rest) moved in
    let fewer : count_by p xs ≤ count_by p rest = no_more p xs rest distinct.1 (λ y there.
    let kept : IsReadSoFar (x ∷ rest) y =
    contains_is_present (x ∷ rest) y
    (Contains-permutation ys (x
    ∷ rest) y moved (is_present_contains ys y (to y (is_present_later x xs y there)))) in
    elim (is_present_cases x rest y kept) [
      | inl here ↦ absurd (distinct.0 (subst (IsReadSoFar xs) here there))
      | inr later ↦ later
    ]) in
    let a : count_by p (x ∷ xs) ≡ one x + count_by p xs = sum_by-cons one x xs in
    let b : count_by p (x ∷ rest) ≡ one x + count_by p rest = sum_by-cons one x rest in
    omega arith

-- ---- two lists of the same members

pub record AreSame (a b : List Member) : Type 0 where
  pub to : (m : Member) → IsReadSoFar a m → IsReadSoFar b m
  pub back : (m : Member) → IsReadSoFar b m → IsReadSoFar a m
  pub count : (k : ℕ) → count_numbered k a ≡ count_numbered k b

pub same_from_distinct : (a b : List Member) → Distinct a → Distinct b → ((m : Member) → IsReadSoFar a m → IsReadSoFar b m)
    → ((m : Member) → IsReadSoFar b m → IsReadSoFar a m) → AreSame a b
same_from_distinct a b da db to back = record {
  to = to;
  back = back;
  count = λ k.
      let le : count_numbered k a ≤ count_numbered k b = no_more (λ (m : Member). m.number == k) a b da to in
      let ge : count_numbered k b ≤ count_numbered k a = no_more (λ (m : Member). m.number == k) b a db back in
      omega arith;
}

turned : (a b : List Member) → AreSame a b → AreSame b a
turned a b same = record { to = same.back; back = same.to; count = λ k. sym (same.count k) }

number_there : (a b : List Member) → AreSame a b → (k : ℕ) → IsReadSoFar (numbers_of a) k → IsReadSoFar (numbers_of b) k
number_there a b same k at =
    let from = is_present_map (λ (m : Member). m.number) a k at in
    subst (IsReadSoFar (numbers_of b)) from.2
    (map_is_present (λ (m : Member). m.number) b from.0 (same.to from.0 from.1))

-- the least of the numbers that pass
numbers_pass : (a b : List Member) (p q : ℕ → Bool) → AreSame a b → ((k : ℕ) → p k ≡ q k)
    → (k : ℕ) → IsReadSoFar (filter p (numbers_of a)) k → IsReadSoFar (filter q (numbers_of b)) k
numbers_pass a b p q same agree k at =
    let is = is_present_filter p (numbers_of a) k at in
    filter_is_present q (numbers_of b) k (number_there a b same k is.0) (sym (agree k) ∙ is.1)

least_passing : (a b : List Member) (p q : ℕ → Bool) → AreSame a b → ((k : ℕ) → p k ≡ q k)
    → least (filter p (numbers_of a)) ≡ least (filter q (numbers_of b))
least_passing a b p q same agree =
    least_same (filter p (numbers_of a)) (filter q (numbers_of b)) (numbers_pass a b p q same agree)
    (numbers_pass b a q p (turned a b same) (λ k. sym (agree k)))

repeated_same : (a b : List Member) → AreSame a b → least_repeated a ≡ least_repeated b
repeated_same a b same =
    least_passing a b (λ k. nat_le 2 (count_numbered k a)) (λ k. nat_le 2 (count_numbered k b)) same
    (λ k. ap (nat_le 2) (same.count k))

after_same : (n : ℕ) (a b : List Member) → AreSame a b → least_after n a ≡ least_after n b
after_same n a b same = least_passing a b (nat_lt n) (nat_lt n) same (λ k. refl)

abbrev reports : Member → Bool
reports m = is_some m.total

ends_there : (a b : List Member) → AreSame a b → (k : ℕ) → IsReadSoFar (numbers_of (filter reports a)) k
    → IsReadSoFar (numbers_of (filter reports b)) k
ends_there a b same k at =
    let from = is_present_map (λ (m : Member). m.number) (filter reports a) k at in
    let is = is_present_filter reports a from.0 from.1 in
    subst (IsReadSoFar (numbers_of (filter reports b))) from.2
    (map_is_present (λ (m : Member). m.number) (filter reports b) from.0
    (filter_is_present reports b from.0 (same.to from.0 is.0) is.1))

end_same : (a b : List Member) → AreSame a b → end_of a ≡ end_of b
end_same a b same =
    least_same (numbers_of (filter reports a)) (numbers_of (filter reports b)) (ends_there a b same)
    (ends_there b a (turned a b same))

abbrev tried : List Member → List ℕ
tried members = 2 ∷ map (λ m. m.number + 1) members

tried_there : (a b : List Member) → AreSame a b → (k : ℕ) → IsReadSoFar (tried a) k → IsReadSoFar (tried b) k
tried_there a b same k at = elim (is_present_cases 2 (map (λ (m : Member). m.number + 1) a) k at) [
  | inl here ↦ (0, ap Some (sym here))
  | inr later ↦
      let from = is_present_map (λ (m : Member). m.number + 1) a k later in
      let there = map_is_present (λ (m : Member). m.number + 1) b from.0 (same.to from.0 from.1) in
      is_present_later 2 (map (λ (m : Member). m.number + 1) b) k
      (subst (IsReadSoFar (map (λ (m : Member). m.number + 1) b)) from.2 there)
]

absent_agrees : (n : ℕ) (a b : List Member) → AreSame a b → (k : ℕ) → is_absent n a k ≡ is_absent n b k
absent_agrees n a b same k = ap (λ (c : ℕ). nat_le 2 k && nat_le k n && (c == 0)) (same.count k)

absent_pass : (n : ℕ) (a b : List Member) → AreSame a b → (k : ℕ) → IsReadSoFar (filter (is_absent n a) (tried a)) k
    → IsReadSoFar (filter (is_absent n b) (tried b)) k
absent_pass n a b same k at =
    let is = is_present_filter (is_absent n a) (tried a) k at in
    filter_is_present (is_absent n b) (tried b) k (tried_there a b same k is.0) (sym (absent_agrees n a b same k) ∙ is.1)

absent_same : (n : ℕ) (a b : List Member) → AreSame a b → least_absent n a ≡ least_absent n b
absent_same n a b same =
    least_same (filter (is_absent n a) (tried a)) (filter (is_absent n b) (tried b)) (absent_pass n a b same)
    (absent_pass n b a (turned a b same))

-- ---- the member with a number, where none is twice

once : (members : List Member) → least_repeated members ≡ None → (k : ℕ) → count_numbered k members < 2
once members none k = elim (cases_lt (count_numbered k members) 2) [
  | inl few ↦ few
  | inr many ↦
      let c : count_numbered k members ≡ times k (numbers_of members) = count_is_times k members in
      let at = once_at k (numbers_of members) (omega arith) in
      let hit : nat_le 2 (count_numbered k members) ≡ true = grind (arith, nat_tests) in
      let passes : IsReadSoFar (filter (λ j. nat_le 2 (count_numbered j members)) (numbers_of members)) k =
      filter_is_present (λ j. nat_le 2 (count_numbered j members)) (numbers_of members) k at hit in
      let least_is = least_in (filter (λ j. nat_le 2 (count_numbered j members)) (numbers_of members)) in
      absurd (subst (LeastIn (filter (λ j. nat_le 2 (count_numbered j members))
      (numbers_of members))) none least_is k passes)
]

number_at : (members : List Member) (m : Member) (i : ℕ) → slice_get members i ≡ Some m
    → slice_get (numbers_of members) i ≡ Some m.number
number_at [] m i at = absurd (cc)
number_at (x ∷ members) m zero at = let is : x ≡ m = cc in ap (λ (y : Member). Some y.number) is
number_at (x ∷ members) m (suc i) at = number_at members m i at

only_one : (members : List Member) (k : ℕ) (m n : Member) → count_numbered k members < 2 → IsReadSoFar members m
    → IsReadSoFar members n
    → m.number ≡ k → n.number ≡ k → m ≡ n
only_one members k m n few at there first second =
    let c : count_numbered k members ≡ times k (numbers_of members) = count_is_times k members in
    let e : slice_get (numbers_of members) at.0 ≡ Some k = number_at members m at.0 at.1 ∙ ap Some first in
    let f : slice_get (numbers_of members) there.0 ≡ Some k = number_at members n there.0 there.1 ∙ ap Some second in
    elim (cases_lt at.0 there.0) [
      | inl less ↦
          let two : 2 ≤ times k (numbers_of members) = at_twice k (numbers_of members) at.0 there.0 less e f in
          absurd (omega arith)
      | inr more ↦ elim (cases_lt there.0 at.0) [
        | inl less ↦
            let two : 2 ≤ times k (numbers_of members) = at_twice k (numbers_of members) there.0 at.0 less f e in
            absurd (omega arith)
        | inr more' ↦
            let i : at.0 ≡ there.0 = omega arith in
            let z : Some m ≡ Some n = sym at.1 ∙ (ap (slice_get members) i ∙ there.1) in
            cc
      ]
    ]

found_is_present : (p : Member → Bool) (members : List Member) (m : Member) → find p members ≡ Some m
    → IsReadSoFar members m × (p m ≡ true)
found_is_present p [] m e = absurd (cc)
found_is_present p (x ∷ members) m e = elim (cases_Bool (p x)) [
  | inl hit ↦
      let z : Some x ≡ Some m = sym (ap (λ (b : Bool). cond b (Some x) (find p members)) hit) ∙ e in
      let is : x ≡ m = cc in
      ((0, z), ap p (sym is) ∙ hit)
  | inr miss ↦
      let z : find p members ≡ Some m = sym (ap (λ (b : Bool). cond b (Some x) (find p members)) miss) ∙ e in
      let later = found_is_present p members m z in
      (is_present_later x members m later.0, later.1)
]

not_found : (p : Member → Bool) (members : List Member) → find p members ≡ None
    → (m : Member) → IsReadSoFar members m → p m ≡ false
not_found p [] e m at = absurd (is_present_nowhere m at)
not_found p (x ∷ members) e m at = elim (cases_Bool (p x)) [
  | inl hit ↦
      let z : Some x ≡ None = sym (ap (λ (b : Bool). cond b (Some x) (find p members)) hit) ∙ e in
      absurd (cc)
  | inr miss ↦ elim (is_present_cases x members m at) [
    | inl here ↦ ap p here ∙ miss
    | inr later ↦ not_found p members (sym (ap (λ (b : Bool). cond b (Some x) (find p members)) miss) ∙ e) m later
  ]
]

pub numbered_same : (a b : List Member) → AreSame a b → least_repeated b ≡ None → (k : ℕ)
    → member_numbered a k ≡ member_numbered b k
numbered_same a b same none k = by_case (member_numbered a k) (member_numbered b k) refl refl
  where
    test : Member → Bool
    test m = m.number == k

    by_case : (o q : Option Member) → member_numbered a k ≡ o → member_numbered b k ≡ q
        → member_numbered a k ≡ member_numbered b k
    by_case None None e f = e ∙ sym f
    by_case None (Some n) e f =
        let is = found_is_present (λ (m : Member). m.number == k) b n f in
        absurd (true≢false (sym is.1 ∙ not_found (λ (m : Member). m.number == k) a e n (same.back n is.0)))
    by_case (Some m) None e f =
        let is = found_is_present (λ (m : Member). m.number == k) a m e in
        absurd (true≢false (sym is.1 ∙ not_found (λ (m : Member). m.number == k) b f m (same.to m is.0)))
    by_case (Some m) (Some n) e f =
        let is = found_is_present (λ (m : Member). m.number == k) a m e in
        let it = found_is_present (λ (m : Member). m.number == k) b n f in
        let z : m ≡ n =
        only_one b k m n (once b none k) (same.to m is.0) it.0 (eqb-true m.number k is.1)
        (eqb-true n.number k it.1) in
        e ∙ (ap Some z ∙ sym f)

filter_map_agree : (h g : ℕ → Option Member) → ((k : ℕ) → h k ≡ g k) → (ks : List ℕ)
    → filter_map h ks ≡ filter_map g ks
filter_map_agree h g agree [] = refl
filter_map_agree h g agree (k ∷ ks) =
    ap (λ (o : Option Member). cons_option o (filter_map h ks)) (agree k)
    ∙ ap (cons_option (g k)) (filter_map_agree h g agree ks)

order_same : (n : ℕ) (a b : List Member) → AreSame a b → least_repeated b ≡ None → in_order n a ≡ in_order n b
order_same n a b same none =
    filter_map_agree (member_numbered a) (member_numbered b) (numbered_same a b same none) (range_with_len 2 (n - 1))

total_same : (n size : ℕ) (a b : List Member) → AreSame a b → least_repeated b ≡ None
    → has_total n size a ≡ has_total n size b
total_same n size a b same none =
    ap (λ (o : Option Member). option_eq nat_eq (option_and_then (λ m. m.total) o)
    (Some (size + sum_by (λ m. m.size) (in_order n a)))) (numbered_same a b same none n)
    ∙ ap (λ (ms : List Member). option_eq nat_eq (option_and_then (λ m. m.total) (member_numbered b n))
    (Some (size + sum_by (λ m. m.size) ms))) (order_same n a b same none)

absent_or_total_same : (o : Option ℕ) (n size : ℕ) (a b : List Member) → AreSame a b → least_repeated b ≡ None
    → absent_or_total o n size a ≡ absent_or_total o n size b
absent_or_total_same None n size a b same none =
    ap (λ (t : Bool). cond t None (Some Total)) (total_same n size a b same none)
absent_or_total_same (Some k) n size a b same none = refl

gap_to_same : (o : Option ℕ) (size : ℕ) (a b : List Member) → AreSame a b → least_repeated b ≡ None
    → gap_to o size a ≡ gap_to o size b
gap_to_same None size a b same none = refl
gap_to_same (Some n) size a b same none =
    ap (λ (o : Option ℕ). option_or (option_map AfterEnd o) (absent_or_total (least_absent n a) n size a))
    (after_same n a b same)
    ∙ (ap (λ (o : Option ℕ). option_or (option_map AfterEnd (least_after n b)) (absent_or_total o n size a))
    (absent_same n a b same)
    ∙ ap (option_or (option_map AfterEnd (least_after n b)))
    (absent_or_total_same (least_absent n b) n size a b same none))

gap_same : (size : ℕ) (a b : List Member) → AreSame a b → gap_of size a ≡ gap_of size b
gap_same size a b same = by_case (least_repeated b) refl
  where
    by_case : (o : Option ℕ) → least_repeated b ≡ o → gap_of size a ≡ gap_of size b
    by_case (Some k) e = gap_repeated size k a (repeated_same a b same ∙ e) ∙ sym (gap_repeated size k b e)
    by_case None e =
        gap_following size a (end_of b) (repeated_same a b same ∙ e) (end_same a b same)
        ∙ (gap_to_same (end_of b) size a b same e ∙ sym (gap_following size b (end_of b) e refl))

-- without a gap, no number is twice
once_without_gap : (size : ℕ) (b : List Member) → gap_of size b ≡ None → least_repeated b ≡ None
once_without_gap size b none = by_case (least_repeated b) refl
  where
    by_case : (o : Option ℕ) → least_repeated b ≡ o → least_repeated b ≡ None
    by_case None e = e
    by_case (Some k) e = let z : Some (Repeated k) ≡ None = sym (gap_repeated size k b e) ∙ none in absurd (cc)

followers_same : (a b : List Member) → AreSame a b → least_repeated b ≡ None → followers a ≡ followers b
followers_same a b same none =
    ap (λ (o : Option ℕ). option_map_or (λ n. in_order n a) o []) (end_same a b same) ∙ by_case (end_of b)
  where
    by_case : (o : Option ℕ) → option_map_or (λ n. in_order n a) o [] ≡ option_map_or (λ n. in_order n b) o []
    by_case None = refl
    by_case (Some n) = order_same n a b same none

-- a series and its gap, from any list of the same members
pub joined_same : (size : ℕ) (a b : List Member) → AreSame a b
    → unless_gap (gap_of size a) a ≡ unless_gap (gap_of size b) b
joined_same size a b same =
    ap (λ (o : Option Gap). unless_gap o a) (gap_same size a b same) ∙ by_case (gap_of size b) refl
  where
    by_case : (o : Option Gap) → gap_of size b ≡ o → unless_gap o a ≡ unless_gap o b
    by_case (Some gap) e = refl
    by_case None e = ap Ok (followers_same a b same (once_without_gap size b e))

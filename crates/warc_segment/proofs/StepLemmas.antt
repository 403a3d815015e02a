-- A walk along the entries of a text: it meets each once, in the order of numbers and then of positions.
use Rattle.std.proofs.Common.{◌≡◌, ◌⊎◌, inl, inr, ℕ, zero, suc, ◌+◌, ◌-◌, ◌<◌, ◌≤◌, Bool, true, false, not, ◌&&◌, ◌||◌, ◌==◌, List, [], ◌∷◌, ◌++◌, length, get_or, map, Option, Some, None, slice_get, refl, sym, ◌∙◌, ap, subst, arith, length-append}
use Rattle.std.specs.Prelude.{AllPairs, Contains, nat_lt, count_by, MatchOption, IfSome, IfNone}
use Rattle.std.proofs.lemmas.Bool.{cases_Bool, cases_lt}
use Rattle.std.proofs.lemmas.Bool.Decides.{nat_tests}
use Rattle.std.proofs.lemmas.List.{map-append, length-map}
use Rattle.std.proofs.lemmas.List.Elements.{All-push, All-weaker, All-contains, Contains-append_left, Contains-push, Contains-get_or}
use Rattle.std.proofs.lemmas.List.Quantifiers.{all_pairs_push}
use Rattle.std.proofs.lemmas.List.Sums.{sum_by-cons}
use Rattle.std.proofs.lemmas.Option.{slice_get-get_or, slice_get_within, get_or_from_slice_get}
use Rattle.warc_order.specs.declared.FoundEntry.{FoundEntry}
use Rattle.warc_order.specs.declared.mark.Mark.{Mark}
use Rattle.warc_order.specs.Entries.{Entry, entry_at, no_entry, mark_lt, comes_later, IsFrom, IsAfter, IsFirst, IsNone}
use Rattle.warc_segment.specs.declared.held.TotalAndPlace.{TotalAndPlace}
use Rattle.warc_segment.specs.declared.series.Continuation.{Continuation}
use Rattle.warc_segment.specs.Kept.{KeptMember}
use Rattle.warc_segment.specs.Held.{kept_from, side_by_side, AreHeld, continuation_of, ComesBefore, IsKeptAs, AreInSeries, IsWholeSeries, positions_of, IsEntryAfter, IsNext, IsDone}
use Rattle.warc_segment.proofs.LeastLemmas.{IsReadSoFar, is_present_cases, is_present_map, map_is_present}
use Rattle.warc_segment.proofs.SameLemmas.{Distinct, no_more, contains_is_present, is_present_contains}
use Rattle.warc_segment.proofs.HeldLemmas.{side_at}

-- ---- which entry is later

mark_minor : (a b : Mark) → a.major ≡ 0 → b.major ≡ 0 → mark_lt a b ≡ nat_lt a.minor b.minor
mark_minor a b ea eb =
    ap (λ (x : ℕ). nat_lt x b.major || (x == b.major && nat_lt a.minor b.minor)) ea
    ∙ ap (λ (y : ℕ). nat_lt 0 y || (0 == y && nat_lt a.minor b.minor)) eb

later_is : (a b : Entry) → a.mark.major ≡ 0 → b.mark.major ≡ 0
    → comes_later a b ≡ (nat_lt b.mark.minor a.mark.minor || (not
    (nat_lt a.mark.minor b.mark.minor) && nat_lt b.position a.position))
later_is a b ea eb =
    ap (λ (t : Bool). t || (not (mark_lt a.mark b.mark) && nat_lt b.position a.position))
    (mark_minor b.mark a.mark eb ea)
    ∙ ap (λ (t : Bool). nat_lt b.mark.minor a.mark.minor || (not t && nat_lt b.position a.position))
    (mark_minor a.mark b.mark ea eb)

numbers_later : (m n p q : ℕ) → (nat_lt n m || (not (nat_lt m n) && nat_lt q p)) ≡ true → (n ≤ m) × (n ≡ m → q < p)
numbers_later m n p q hit = (grind (arith, nat_tests), λ same. grind (arith, nat_tests))

numbers_not_later : (m n p q : ℕ) → (nat_lt n m || (not (nat_lt m n) && nat_lt q p)) ≡ false → (m ≤ n) × (m ≡ n
    → p ≤ q)
numbers_not_later m n p q miss = (grind (arith, nat_tests), λ same. grind (arith, nat_tests))

later : (a b : Entry) → a.mark.major ≡ 0 → b.mark.major ≡ 0 → comes_later a b ≡ true
    → (b.mark.minor ≤ a.mark.minor) × (b.mark.minor ≡ a.mark.minor → b.position < a.position)
later a b ea eb hit = numbers_later a.mark.minor b.mark.minor a.position b.position (sym (later_is a b ea eb) ∙ hit)

not_later : (a b : Entry) → a.mark.major ≡ 0 → b.mark.major ≡ 0 → comes_later a b ≡ false
    → (a.mark.minor ≤ b.mark.minor) × (a.mark.minor ≡ b.mark.minor → a.position ≤ b.position)
not_later a b ea eb miss = numbers_not_later a.mark.minor b.mark.minor a.position b.position (sym
    (later_is a b ea eb) ∙ miss)

-- ---- the walk begins

pub nothing_before : (mark : Mark) → mark_lt mark (record { major = 0; minor = 0 }) ≡ false
nothing_before mark = numbers mark.major mark.minor
  where
    numbers : (m n : ℕ) → (nat_lt m 0 || (m == 0 && nat_lt n 0)) ≡ false
    numbers m n = grind (arith, nat_tests)

pub no_series : (id : List ℕ) (members : List KeptMember) → AreInSeries id members []
no_series id members = record {
  ordered = λ i j d less within. absurd (omega arith);
  kept = λ k d within. absurd (omega arith);
}

pub starts : (id : List ℕ) (es : List Entry) (i : ℕ) → i < length es
    → IsFirst es (IsFrom id (record { major = 0; minor = 0 })) (entry_at es i) → IsNext id es [] i
starts id es i within first = record {
  within = within;
  text = first.passes.text_is;
  following = λ k d in_none. absurd (omega arith);
  rest = λ e at text. inr (first.first e at (record { text_is = text; from = nothing_before e.mark }));
}

pub none_at_start : (id : List ℕ) (es : List Entry) → IsNone es (IsFrom id (record { major = 0; minor = 0 }))
    → IsDone id es []
none_at_start id es none e at text = absurd (none e at (record { text_is = text; from = nothing_before e.mark }))

-- ---- a step of the walk

entry_is_present : (es : List Entry) (i : ℕ) → i < length es → Contains es (entry_at es i)
entry_is_present es i within = Contains-get_or es i no_entry within

low : (p : ℕ) (es : List Entry) (fs : List TotalAndPlace) → AreHeld p es fs → (e : Entry) → Contains es e → e.mark.major ≡ 0
low p es fs held e at =
    (All-contains (λ (x : Entry). (x.mark.major ≡ 0) × (2 ≤ x.mark.minor)) es e held.numbered at).0

-- a continuation is what the entry at a place is
pub record IsEntry (es : List Entry) (fs : List TotalAndPlace) (i : ℕ) (c : Continuation) : Type 0 where
  pub facts : TotalAndPlace
  pub is_present : slice_get (side_by_side es fs) i ≡ Some (kept_from (entry_at es i) facts)
  pub is : c ≡ continuation_of (kept_from (entry_at es i) facts)

number_of : (es : List Entry) (fs : List TotalAndPlace) (i : ℕ) (c : Continuation) → IsEntry es fs i c
    → c.number ≡ (entry_at es i).mark.minor
number_of es fs i c entry = ap (λ (x : Continuation). x.number) entry.is

position_of : (es : List Entry) (fs : List TotalAndPlace) (i : ℕ) (c : Continuation) → IsEntry es fs i c
    → c.position ≡ (entry_at es i).position
position_of es fs i c entry = ap (λ (x : Continuation). x.position) entry.is

after_next : (e : Entry) (c d : Continuation) → d.number ≡ e.mark.minor → d.position ≡ e.position → IsEntryAfter e c
    → ComesBefore c d
after_next e c d number position is = record {
  number = (let le : c.number ≤ e.mark.minor = is.number in omega arith);
  position = λ same. let less : c.position < e.position = is.position (same ∙ number) in omega arith;
}

kept_is_present : (members : List KeptMember) (k : ℕ) (m : KeptMember) → slice_get members k ≡ Some m → Contains members m
kept_is_present members k m at = (k, slice_get_within members k m at, get_or_from_slice_get members k m m at)

pub one_further : (id : List ℕ) (es : List Entry) (fs : List TotalAndPlace) (series : List Continuation) (i : ℕ)
    (c : Continuation) → AreInSeries id (side_by_side es fs) series → IsNext id es series i → IsEntry es fs i c
    → AreInSeries id (side_by_side es fs) (series ++ c ∷ [])
one_further id es fs series i c some next entry = record {
  ordered = all_pairs_push ComesBefore series c some.ordered (λ k d within.
      after_next (entry_at es i) (get_or series k d) c (number_of es fs i c entry) (position_of es fs i c entry)
      (next.following k d within));
  kept = All-push (IsKeptAs id (side_by_side es fs)) series c some.kept (record {
    it = kept_from (entry_at es i) entry.facts;
    is_present = kept_is_present (side_by_side es fs) i (kept_from (entry_at es i) entry.facts) entry.is_present;
    origin = next.text;
    is = entry.is;
  });
}

positions_more : (series : List Continuation) (c : Continuation)
    → positions_of (series ++ c ∷ []) ≡ positions_of series ++ c.position ∷ []
positions_more series c = map-append (λ (x : Continuation). x.position) series (c ∷ [])

met_before : (series : List Continuation) (c : Continuation) (p : ℕ) → Contains (positions_of series) p
    → Contains (positions_of (series ++ c ∷ [])) p
met_before series c p at =
    subst (λ (ps : List ℕ). Contains ps p) (sym (positions_more series c))
    (Contains-append_left (positions_of series) (c.position ∷ []) p at)

met_now : (series : List Continuation) (c : Continuation) (p : ℕ) → c.position ≡ p
    → Contains (positions_of (series ++ c ∷ [])) p
met_now series c p is =
    subst (λ (ps : List ℕ). Contains ps p) (sym (positions_more series c))
    (subst (Contains (positions_of series ++ c.position
    ∷ [])) is (Contains-push (positions_of series) c.position))

-- an entry that isn't there yet is the next one, or comes after it
left_over : (p : ℕ) (id : List ℕ) (es : List Entry) (fs : List TotalAndPlace) (series : List Continuation) (i : ℕ)
    (c : Continuation) → AreHeld p es fs → IsNext id es series i → IsEntry es fs i c
    → (e : Entry) → Contains es e → e.text ≡ id
    → Contains (positions_of (series ++ c ∷ [])) e.position ⊎ (comes_later e (entry_at es i) ≡ true)
left_over p id es fs series i c held next entry e at text = elim (next.rest e at text) [
  | inl met ↦ inl (met_before series c e.position met)
  | inr not_yet ↦ elim (cases_Bool (comes_later e (entry_at es i))) [
    | inl after ↦ inr after
    | inr same ↦
        let one : Entry = entry_at es i in
        let a : e.mark.major ≡ 0 = low p es fs held e at in
        let b : one.mark.major ≡ 0 = low p es fs held one (entry_is_present es i next.within) in
        let up = not_later one e b a not_yet in
        let down = not_later e one a b same in
        let tie : one.mark.minor ≡ e.mark.minor = omega (arith, up.0, down.0) in
        let le : one.position ≤ e.position = up.1 tie in
        let ge : e.position ≤ one.position = down.1 (sym tie) in
        let is : c.position ≡ one.position = position_of es fs i c entry in
        inl (met_now series c e.position (omega arith))
  ]
]

pub goes_on : (p : ℕ) (id : List ℕ) (es : List Entry) (fs : List TotalAndPlace) (series : List Continuation) (i j : ℕ)
    (c : Continuation) → AreHeld p es fs → IsNext id es series i → IsEntry es fs i c → j < length es
    → IsFirst es (IsAfter (entry_at es i)) (entry_at es j) → IsNext id es (series ++ c ∷ []) j
goes_on p id es fs series i j c held next entry within first =
    let one : Entry = entry_at es i in
    let two : Entry = entry_at es j in
    let a : two.mark.major ≡ 0 = low p es fs held two (entry_is_present es j within) in
    let b : one.mark.major ≡ 0 = low p es fs held one (entry_is_present es i next.within) in
    let up = later two one a b first.passes.later in
    let number : c.number ≡ one.mark.minor = number_of es fs i c entry in
    let position : c.position ≡ one.position = position_of es fs i c entry in
    record {
      within = within;
      text = first.passes.text_is ∙ next.text;
      following = All-push (IsEntryAfter two) series c
          (All-weaker (IsEntryAfter one) (IsEntryAfter two) (λ x is. record {
            number = (let n : x.number ≤ one.mark.minor = is.number in omega (arith, up.0));
            position = λ same.
                let n : x.number ≤ one.mark.minor = is.number in
                let m : one.mark.minor ≤ two.mark.minor = up.0 in
                let tie : one.mark.minor ≡ two.mark.minor = omega arith in
                let less : one.position < two.position = up.1 tie in
                let first : x.position < one.position = is.position (omega arith) in
                omega arith;
          }) series next.following)
          (record {
            number = omega (arith, up.0);
            position = λ same. let less : one.position < two.position = up.1 (sym number ∙ same) in omega arith;
          });
      rest = λ e at text. elim (left_over p id es fs series i c held next entry e at text) [
        | inl met ↦ inl met
        | inr after ↦ inr (first.first e at (record { text_is = text ∙ sym next.text; later = after }))
      ];
    }

pub ends : (p : ℕ) (id : List ℕ) (es : List Entry) (fs : List TotalAndPlace) (series : List Continuation) (i : ℕ)
    (c : Continuation) → AreHeld p es fs → IsNext id es series i → IsEntry es fs i c
    → IsNone es (IsAfter (entry_at es i)) → IsDone id es (series ++ c ∷ [])
ends p id es fs series i c held next entry none e at text =
    elim (left_over p id es fs series i c held next entry e at text) [
      | inl met ↦ met
      | inr after ↦ absurd (none e at (record { text_is = text ∙ sym next.text; later = after }))
    ]

-- ---- the walk ends

length_side : (es : List Entry) (fs : List TotalAndPlace) → length fs ≡ length es → length (side_by_side es fs) ≡ length es
length_side [] fs same = refl
length_side (e ∷ es) [] same = absurd (omega arith)
length_side (e ∷ es) (f ∷ fs) same =
    let n : length (side_by_side es fs) ≡ length es = length_side es fs (omega arith) in omega arith

count_all : {X : Type 0} (xs : List X) → count_by (λ _. true) xs ≡ length xs
count_all [] = refl
count_all {X} (x ∷ xs) =
    let one : X → ℕ = λ _. 1 in
    let e : count_by (λ _. true) (x ∷ xs) ≡ 1 + count_by (λ _. true) xs = sum_by-cons one x xs in
    let n : count_by (λ _. true) xs ≡ length xs = count_all xs in
    omega arith

distinct_series : (series : List Continuation) → AllPairs ComesBefore series → Distinct series
distinct_series [] ordered = tt
distinct_series (c ∷ series) ordered = (
  (λ at.
      let before : ComesBefore c (get_or (c ∷ series) (suc at.0) c) =
      ordered 0 (suc at.0) c (omega arith) (let w : at.0 < length series = slice_get_within series at.0 c at.1 in
      omega arith) in
      let is : get_or series at.0 c ≡ c = get_or_from_slice_get series at.0 c c at.1 in
      let itself : ComesBefore c c = subst (ComesBefore c) is before in
      let less : c.position < c.position = itself.position refl in
      absurd (omega arith)),
  distinct_series series (λ i j d less within. ordered (suc i) (suc j) d (omega arith) (omega arith)),
)

-- fewer are there than there are entries, as long as one is left
pub one_left : (id : List ℕ) (es : List Entry) (fs : List TotalAndPlace) (series : List Continuation) (i : ℕ) (g : TotalAndPlace)
    → length fs ≡ length es → AreInSeries id (side_by_side es fs) series → IsNext id es series i
    → length series < length es
one_left id es fs series i g same some next =
    let members : List KeptMember = side_by_side es fs in
    let long : length members ≡ length es = length_side es fs same in
    let it : KeptMember = kept_from (entry_at es i) (get_or fs i g) in
    let c : Continuation = continuation_of it in
    let at : slice_get members i ≡ Some it = side_at es fs i no_entry g same next.within in
    let apart : IsReadSoFar series c → ⊥ = λ there.
    let within : there.0 < length series = slice_get_within series there.0 c there.1 in
    let is : get_or series there.0 c ≡ c = get_or_from_slice_get series there.0 c c there.1 in
    let before : IsEntryAfter (entry_at es i) c =
    subst (IsEntryAfter (entry_at es i)) is (next.following there.0 c within) in
    let less : c.position < c.position = before.position refl in
    absurd (omega arith) in
    let all : (x : Continuation) → IsReadSoFar (c ∷ series) x → IsReadSoFar (map continuation_of members) x = λ x there.
    elim (is_present_cases c series x there) [
      | inl here ↦ subst (IsReadSoFar (map continuation_of members)) (sym here)
          (map_is_present continuation_of members it (i, at))
      | inr later ↦
          let within : later.0 < length series = slice_get_within series later.0 x later.1 in
          let is : get_or series later.0 x ≡ x = get_or_from_slice_get series later.0 x x later.1 in
          let kept : IsKeptAs id members x = subst (IsKeptAs id members) is (some.kept later.0 x within) in
          subst (IsReadSoFar (map continuation_of members)) (sym kept.is)
          (map_is_present continuation_of members kept.it (contains_is_present members kept.it kept.is_present))
    ] in
    let few : count_by (λ _. true) (c ∷ series) ≤ count_by (λ _. true) (map continuation_of members) =
    no_more (λ _. true) (c ∷ series) (map continuation_of members)
    (apart, distinct_series series some.ordered) all in
    let a : count_by (λ _. true) (c ∷ series) ≡ length (c ∷ series) = count_all (c ∷ series) in
    let b : count_by (λ _. true) (map continuation_of members) ≡ length (map continuation_of members) =
    count_all (map continuation_of members) in
    let n : length (map continuation_of members) ≡ length members = length-map members continuation_of in
    omega arith

-- ---- all are met

-- the entry of a kept one
pub entry_of : (es : List Entry) (fs : List TotalAndPlace) (k : ℕ) (m : KeptMember) → length fs ≡ length es
    → slice_get (side_by_side es fs) k ≡ Some m → (k < length es) × (m.position ≡ (entry_at es k).position)
    × (m.origin ≡ (entry_at es k).text)
entry_of [] fs k m same at = absurd (cc)
entry_of (e ∷ es) [] k m same at = absurd (cc)
entry_of (e ∷ es) (f ∷ fs) zero m same at =
    let is : kept_from e f ≡ m = cc in
    (omega arith, ap (λ (x : KeptMember). x.position) (sym is), ap (λ (x : KeptMember). x.origin) (sym is))
entry_of (e ∷ es) (f ∷ fs) (suc k) m same at =
    let later = entry_of es fs k m (omega arith) at in
    (omega (arith, later.0), later.1, later.2)

-- kept ones of one position are one
pub one_place : (p : ℕ) (es : List Entry) (fs : List TotalAndPlace) (m n : KeptMember) → AreHeld p es fs
    → Contains (side_by_side es fs) m → Contains (side_by_side es fs) n → m.position ≡ n.position → m ≡ n
one_place p es fs m n held at there same =
    let members : List KeptMember = side_by_side es fs in
    let first : slice_get members at.0 ≡ Some m = slice_get-get_or members at.0 m at.1 ∙ ap Some at.2 in
    let second : slice_get members there.0 ≡ Some n = slice_get-get_or members there.0 n there.1 ∙ ap Some there.2 in
    let a = entry_of es fs at.0 m held.same first in
    let b = entry_of es fs there.0 n held.same second in
    elim (cases_lt at.0 there.0) [
      | inl less ↦
          let up : (entry_at es at.0).position < (entry_at es there.0).position =
          held.rising at.0 there.0 no_entry less b.0 in
          absurd (omega (arith, a.1, b.1))
      | inr more ↦ elim (cases_lt there.0 at.0) [
        | inl less ↦
            let up : (entry_at es there.0).position < (entry_at es at.0).position =
            held.rising there.0 at.0 no_entry less a.0 in
            absurd (omega (arith, a.1, b.1))
        | inr less ↦
            let i : at.0 ≡ there.0 = omega arith in
            let z : Some m ≡ Some n = sym first ∙ (ap (slice_get members) i ∙ second) in
            cc
      ]
    ]

pub whole : (p : ℕ) (id : List ℕ) (es : List Entry) (fs : List TotalAndPlace) (series : List Continuation) → AreHeld p es fs
    → AreInSeries id (side_by_side es fs) series → IsDone id es series
    → IsWholeSeries id (side_by_side es fs) series
whole p id es fs series held some done = record {
  some = some;
  all = λ m at origin.
      let members : List KeptMember = side_by_side es fs in
      let first : slice_get members at.0 ≡ Some m = slice_get-get_or members at.0 m at.1 ∙ ap Some at.2 in
      let entry = entry_of es fs at.0 m held.same first in
      let met : Contains (positions_of series) (entry_at es at.0).position =
      done (entry_at es at.0) (entry_is_present es at.0 entry.0) (sym entry.2 ∙ origin) in
      let from = is_present_map (λ (c : Continuation). c.position) series (entry_at es at.0).position
      (contains_is_present (positions_of series) (entry_at es at.0).position met) in
      let c : Continuation = from.0 in
      let here : Contains series c = is_present_contains series c from.1 in
      let kept : IsKeptAs id members c = All-contains (IsKeptAs id members) series c some.kept here in
      let position : c.position ≡ kept.it.position = ap (λ (x : Continuation). x.position) kept.is in
      let same : m ≡ kept.it = one_place p es fs m kept.it held at kept.is_present (entry.1 ∙ (sym from.2 ∙ position)) in
      subst (Contains series) (kept.is ∙ ap continuation_of (sym same)) here;
}

-- ---- as the code steps

abbrev Waits : List ℕ → List Entry → List Continuation → Option FoundEntry → Type 0
Waits id es series next = MatchOption next (IsDone id es series) (λ found. IsNext id es series found.index)

pub first_step : (id : List ℕ) (es : List Entry) (o : Option FoundEntry) → IfSome o (λ found. found.index < length es)
    → IfSome o (λ found. IsFirst es (IsFrom id (record { major = 0; minor = 0 })) (entry_at es found.index))
    → IfNone o (IsNone es (IsFrom id (record { major = 0; minor = 0 })))
    → (series : List Continuation) → series ≡ []
    → MatchOption o (IsDone id es series) (λ found. IsNext id es series found.index)
first_step id es None within first none series empty =
    subst (λ (s : List Continuation). Waits id es s None) (sym empty) (none_at_start id es none)
first_step id es (Some found) within first none series empty =
    subst (λ (s : List Continuation). Waits id es s (Some found)) (sym empty) (starts id es found.index within first)

pub next_step : (p : ℕ) (id : List ℕ) (es : List Entry) (fs : List TotalAndPlace) (series after : List Continuation) (i : ℕ)
    (c : Continuation) (o : Option FoundEntry) → AreHeld p es fs → IsNext id es series i → IsEntry es fs i c
    → after ≡ series ++ c ∷ [] → IfSome o (λ found. found.index < length es)
    → IfSome o (λ found. IsFirst es (IsAfter (entry_at es i)) (entry_at es found.index))
    → IfNone o (IsNone es (IsAfter (entry_at es i)))
    → MatchOption o (IsDone id es after) (λ found. IsNext id es after found.index)
next_step p id es fs series after i c None held next entry is within first none =
    subst (λ (s : List Continuation). Waits id es s None) (sym is) (ends p id es fs series i c held next entry none)
next_step p id es fs series after i c (Some found) held next entry is within first none =
    subst (λ (s : List Continuation). Waits id es s (Some found)) (sym is)
    (goes_on p id es fs series i found.index c held next entry within first)

pub some_waits : (id : List ℕ) (es : List Entry) (series : List Continuation) (o : Option FoundEntry) (found : FoundEntry)
    → o ≡ Some found
    → MatchOption o (IsDone id es series) (λ f. IsNext id es series f.index) → IsNext id es series found.index
some_waits id es series o found is waits = subst (Waits id es series) is waits

pub none_waits : (id : List ℕ) (es : List Entry) (series : List Continuation) (o : Option FoundEntry) → o ≡ None
    → MatchOption o (IsDone id es series) (λ f. IsNext id es series f.index) → IsDone id es series
none_waits id es series o is waits = subst (Waits id es series) is waits

pub falls : (n : ℕ) (series after : List Continuation) (c : Continuation) → length series < n
    → after ≡ series ++ c ∷ []
    → n - length after < n - length series
falls n series after c less is =
    let e : length after ≡ length series + 1 = ap length is ∙ length-append series (c ∷ []) in
    omega arith

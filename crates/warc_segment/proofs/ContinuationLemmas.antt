-- What the code reads of a series, in the terms of its members.
use Rattle.std.proofs.Common.{◌≡◌, ◌≢◌, inl, inr, ℕ, ◌+◌, ◌-◌, ◌<◌, ◌≤◌, Bool, cond, ◌==◌, List, length, get_or, Some, None, slice_get, sym, ◌∙◌, ap, subst, arith}
use Rattle.std.specs.Prelude.{sum_by, option_map}
use Rattle.std.proofs.lemmas.Bool.{cases_lt}
use Rattle.std.proofs.lemmas.List.{length-map}
use Rattle.std.proofs.lemmas.Option.{slice_get-get_or, slice_get-map, get_or_from_slice_get}
use Rattle.warc_segment.specs.declared.series.Continuation.{Continuation}
use Rattle.warc_segment.specs.declared.gap.Gap.TheVariants.{Unfinished, AfterEnd, Absent, Total}
use Rattle.warc_segment.specs.Series.{Member}
use Rattle.warc_segment.specs.Gaps.{least_repeated, least_absent, gap_of, followers}
use Rattle.warc_segment.specs.Ordered.{member_at, members_of, numbers_in, AreOrdered, Rises, CountsUp, NoTotal, IsEnd}
use Rattle.warc_segment.proofs.OrderedLemmas.{first_repeated, none_repeated, end_found, no_end, next_after, none_after, first_absent, none_absent_in, total_is, gap_unfinished, gap_after, gap_absent, gap_total, followers_all}

pub length_in : (series : List Continuation) → length (numbers_in series) ≡ length series
length_in series = length-map (members_of series) (λ (m : Member). m.number) ∙ length-map series member_at

pub number_in : (series : List Continuation) (i : ℕ) (d : Continuation) → i < length series
    → get_or (numbers_in series) i 0 ≡ (get_or series i d).number
number_in series i d within =
    let at : slice_get series i ≡ Some (get_or series i d) = slice_get-get_or series i d within in
    let member : slice_get (members_of series) i ≡ Some (member_at (get_or series i d)) =
    slice_get-map member_at series i ∙ ap (option_map member_at) at in
    get_or_from_slice_get (numbers_in series) i (get_or series i d).number 0
    (slice_get-map (λ (m : Member). m.number) (members_of series) i
    ∙ ap (option_map (λ (m : Member). m.number)) member)

-- ---- two neighbours

pub rises_more : (series : List Continuation) (i : ℕ) (d : Continuation) → Rises (numbers_in series) i → 1 ≤ i
    → i < length series → (get_or series (i - 1) d).number ≢ (get_or series i d).number
    → Rises (numbers_in series) (i + 1)
rises_more series i d rises some within apart = record {
  apart = λ k less same. elim (cases_lt (k + 1) i) [
    | inl early ↦ rises.apart k early same
    | inr late ↦
        let e : k ≡ i - 1 = omega arith in
        let f : k + 1 ≡ i = omega arith in
        apart (sym (number_in series (i - 1) d (omega arith))
        ∙ (ap (λ (j : ℕ). get_or (numbers_in series) j 0) (sym e)
        ∙ (same ∙ (ap (λ (j : ℕ). get_or (numbers_in series) j 0) f ∙ number_in series i d within))))
  ];
}

pub repeated_here : (series : List Continuation) (i : ℕ) (d : Continuation) → AreOrdered (numbers_in series)
    → Rises (numbers_in series) i → 1 ≤ i → i < length series
    → (get_or series (i - 1) d).number ≡ (get_or series i d).number
    → Some (get_or series i d).number ≡ least_repeated (members_of series)
repeated_here series i d ordered rises some within same =
    let len : length (numbers_in series) ≡ length series = length_in series in
    let f : i ≡ (i - 1) + 1 = omega arith in
    let before : get_or (numbers_in series) (i - 1) 0 ≡ (get_or series i d).number =
    number_in series (i - 1) d (omega arith) ∙ same in
    let here : get_or (numbers_in series) ((i - 1) + 1) 0 ≡ (get_or series i d).number =
    ap (λ (j : ℕ). get_or (numbers_in series) j 0) (sym f) ∙ number_in series i d within in
    ap Some (sym before)
    ∙ sym (first_repeated (members_of series) (i - 1) ordered (subst (Rises (numbers_in series)) f rises)
    (omega arith)
    (before ∙ sym here))

pub rises_whole : (series : List Continuation) (i : ℕ) → Rises (numbers_in series) i → length series ≤ i
    → Rises (numbers_in series) (length (numbers_in series))
rises_whole series i rises long =
    let len : length (numbers_in series) ≡ length series = length_in series in
    record { apart = λ k less. rises.apart k (omega arith) }

pub not_repeated : (series : List Continuation) (i : ℕ) → AreOrdered (numbers_in series) → Rises (numbers_in series) i
    → length series ≤ i → None ≡ least_repeated (members_of series)
not_repeated series i ordered rises long =
    sym (none_repeated (members_of series) ordered (rises_whole series i rises long))

-- ---- the end

pub no_total_more : (series : List Continuation) (i : ℕ) (d : Continuation) → NoTotal (members_of series) i
    → i < length series → (get_or series i d).total ≡ None → NoTotal (members_of series) (i + 1)
no_total_more series i d none within without = record {
  none = λ k m less at. elim (cases_lt k i) [
    | inl early ↦ none.none k m early at
    | inr late ↦
        let e : i ≡ k = omega arith in
        let here : slice_get (members_of series) i ≡ Some (member_at (get_or series i d)) =
        slice_get-map member_at series i ∙ ap (option_map member_at) (slice_get-get_or series i d within) in
        let same : Some (member_at (get_or series i d)) ≡ Some m =
        sym here ∙ (ap (slice_get (members_of series)) e ∙ at) in
        let is : member_at (get_or series i d) ≡ m = cc in
        ap (λ (x : Member). x.total) (sym is) ∙ without
  ];
}

pub end_here : (series : List Continuation) (i total : ℕ) (d : Continuation) → NoTotal (members_of series) i
    → i < length series → (get_or series i d).total ≡ Some total → IsEnd (members_of series) i total
end_here series i total d none within states = record {
  it = member_at (get_or series i d);
  is_present = slice_get-map member_at series i ∙ ap (option_map member_at) (slice_get-get_or series i d within);
  states = states;
  first = none;
}

-- ---- an absent number

pub counts_more : (series : List Continuation) (i : ℕ) (d : Continuation) → CountsUp (numbers_in series) i
    → i < length series → (get_or series i d).number ≡ i + 2 → CountsUp (numbers_in series) (i + 1)
counts_more series i d counts within is = record {
  next = λ k less. elim (cases_lt k i) [
    | inl early ↦ counts.next k early
    | inr late ↦
        let e : k ≡ i = omega arith in
        ap (λ (j : ℕ). get_or (numbers_in series) j 0) e ∙ (number_in series i d within ∙ (is ∙ omega arith))
  ];
}

pub absent_here : (series : List Continuation) (i : ℕ) (d : Continuation) → AreOrdered (numbers_in series)
    → Rises (numbers_in series) (length series) → CountsUp (numbers_in series) i → i < length series
    → (get_or series i d).number ≢ i + 2
    → Some (i + 2) ≡ least_absent (get_or (numbers_in series) (length series - 1) 0) (members_of series)
absent_here series i d ordered rises counts within other =
    let len : length (numbers_in series) ≡ length series = length_in series in
    let found = first_absent (members_of series) i ordered (subst (Rises (numbers_in series)) (sym len) rises) counts
    (omega arith) (λ same. other (sym (number_in series i d within) ∙ same)) in
    sym (ap (λ (n : ℕ). least_absent (get_or (numbers_in series) (n - 1) 0) (members_of series)) (sym len) ∙ found)

pub not_absent : (series : List Continuation) (i : ℕ) → AreOrdered (numbers_in series)
    → CountsUp (numbers_in series) i
    → length series ≤ i → 0 < length series
    → None ≡ least_absent (get_or (numbers_in series) (length series - 1) 0) (members_of series)
not_absent series i ordered counts long some =
    let len : length (numbers_in series) ≡ length series = length_in series in
    let all : CountsUp (numbers_in series) (length (numbers_in series)) =
    record { next = λ k less. counts.next k (omega arith) } in
    sym (ap (λ (n : ℕ). least_absent (get_or (numbers_in series) (n - 1) 0) (members_of series)) (sym len)
    ∙ none_absent_in (members_of series) ordered all (omega arith))

-- ---- the first gap

pub unfinished : (size : ℕ) (series : List Continuation) → AreOrdered (numbers_in series)
    → None ≡ least_repeated (members_of series) → NoTotal (members_of series) (length series)
    → Some Unfinished ≡ gap_of size (members_of series)
unfinished size series ordered once none =
    let len : length (members_of series) ≡ length series = length-map series member_at in
    sym (gap_unfinished size (members_of series) (sym once)
    (no_end (members_of series) ordered (subst (NoTotal (members_of series)) (sym len) none)))

pub after_end : (size : ℕ) (series : List Continuation) (i total : ℕ) (d : Continuation)
    → AreOrdered (numbers_in series)
    → None ≡ least_repeated (members_of series) → Rises (numbers_in series) (length series)
    → IsEnd (members_of series) i total → i + 1 < length series
    → Some (AfterEnd (get_or series (i + 1) d).number) ≡ gap_of size (members_of series)
after_end size series i total d ordered once rises end within =
    let len : length (numbers_in series) ≡ length series = length_in series in
    ap (λ (k : ℕ). Some (AfterEnd k)) (sym (number_in series (i + 1) d within))
    ∙ sym (gap_after size (get_or (numbers_in series) i 0) (get_or (numbers_in series) (i + 1) 0) (members_of series)
    (sym once) (end_found (members_of series) i total ordered end)
    (next_after (members_of series) i ordered (subst (Rises (numbers_in series)) (sym len) rises) (omega arith)))

last_place : (series : List Continuation) (i : ℕ) → i + 1 ≡ length series
    → get_or (numbers_in series) (length series - 1) 0 ≡ get_or (numbers_in series) i 0
last_place series i last =
    let e : length series - 1 ≡ i = omega arith in
    ap (λ (j : ℕ). get_or (numbers_in series) j 0) e

pub absent_within : (size : ℕ) (series : List Continuation) (i total k : ℕ) → AreOrdered (numbers_in series)
    → None ≡ least_repeated (members_of series) → IsEnd (members_of series) i total → i + 1 ≡ length series
    → Some k ≡ least_absent (get_or (numbers_in series) (length series - 1) 0) (members_of series)
    → Some (Absent k) ≡ gap_of size (members_of series)
absent_within size series i total k ordered once end last missing =
    let len : length (numbers_in series) ≡ length series = length_in series in
    let n : ℕ = get_or (numbers_in series) i 0 in
    sym (gap_absent size n k (members_of series) (sym once) (end_found (members_of series) i total ordered end)
    (none_after (members_of series) i ordered (omega arith))
    (sym (missing ∙ ap (λ (j : ℕ). least_absent j (members_of series)) (last_place series i last))))

pub total_reported : (size : ℕ) (series : List Continuation) (i total : ℕ) (right : Bool) → AreOrdered (numbers_in series)
    → None ≡ least_repeated (members_of series) → IsEnd (members_of series) i total → i + 1 ≡ length series
    → None ≡ least_absent (get_or (numbers_in series) (length series - 1) 0) (members_of series)
    → CountsUp (numbers_in series) (length series)
    → right ≡ (total == size + sum_by (λ m. m.size) (members_of series))
    → cond right None (Some Total) ≡ gap_of size (members_of series)
total_reported size series i total right ordered once end last missing counts is =
    let len : length (numbers_in series) ≡ length series = length_in series in
    let n : ℕ = get_or (numbers_in series) i 0 in
    sym (gap_total size n (members_of series) right (sym once) (end_found (members_of series) i total ordered end)
    (none_after (members_of series) i ordered (omega arith))
    (sym (missing ∙ ap (λ (j : ℕ). least_absent j (members_of series)) (last_place series i last)))
    (total_is size (members_of series) i total (subst (CountsUp (numbers_in series)) (sym len) counts) end
    (omega arith)
    ∙ sym is))

pub whole_series : (series : List Continuation) (i total : ℕ) → AreOrdered (numbers_in series)
    → IsEnd (members_of series) i total → i + 1 ≡ length series → CountsUp (numbers_in series) (length series)
    → followers (members_of series) ≡ members_of series
whole_series series i total ordered end last counts =
    let len : length (numbers_in series) ≡ length series = length_in series in
    followers_all (members_of series) i (end_found (members_of series) i total ordered end)
    (subst (CountsUp (numbers_in series)) (sym len) counts) (omega arith)

-- The slots around a place, and around one of an order.
use Rattle.std.proofs.Common.{◌≡◌, ℕ, zero, suc, ◌+◌, ◌-◌, ◌<◌, ◌≤◌, Bool, true, false, not, List, [], length, get_or, Option, Some, None, refl, sym, ap, ◌∙◌, inl, inr, arith, true≢false, find, slice_get, All, IfSome, IfNone}
use Rattle.std.proofs.lemmas.Bool.{cases_lt}
use Rattle.std.proofs.lemmas.Cmp.{tied_itself}
use Rattle.std.specs.Cmp.{IsTotalOrder}
use Rattle.std.specs.Ordering.{is_lt, is_gt, is_le}
use Rattle.std.specs.declared.cmp.Ordering.{Ordering}
use Rattle.std.specs.declared.cmp.Ordering.TheVariants.{Less, Equal, Greater}
use Rattle.warc_order.specs.declared.slot.Slot.{Slot}
use Rattle.warc_order.specs.declared.ranked.PlacedSlot.{PlacedSlot}
use Rattle.std.proofs.lemmas.List.{get_or_default}
use Rattle.warc_order.specs.Ranking.{blank, flattened, start_of, IsRanked, IsStrict, IsFirstOf, IsLastOf, find_last, before_in, slot_in}
use Rattle.warc_order.proofs.BlockLemmas.{at_place, start_of-more, start_of-within}
use Rattle.warc_order.proofs.RankLemmas.{EndsAt, find-end, last_from-end, lt_is_gt, first_found, none_found, last_found, none_last, last_of_first}

lt_not_gt : (o : Ordering) → is_lt o ≡ true → is_gt o ≡ false
lt_not_gt Less e = refl
lt_not_gt Equal e = refl
lt_not_gt Greater e = absurd (true≢false (sym e))

lt_le : (o : Ordering) → is_lt o ≡ true → is_le o ≡ true
lt_le Less e = refl
lt_le Equal e = absurd (true≢false (sym e))
lt_le Greater e = absurd (true≢false (sym e))

gt_not_le : (o : Ordering) → is_gt o ≡ true → is_le o ≡ false
gt_not_le Less e = absurd (true≢false (sym e))
gt_not_le Equal e = absurd (true≢false (sym e))
gt_not_le Greater e = refl

gt_not_lt : (o : Ordering) → is_gt o ≡ true → is_lt o ≡ false
gt_not_lt Less e = absurd (true≢false (sym e))
gt_not_lt Equal e = refl
gt_not_lt Greater e = refl

pub ranked_of_strict : (compare : Slot → Slot → Ordering) (xs : List Slot) → IsStrict compare xs → IsRanked compare xs
ranked_of_strict compare xs strict i j d h k = lt_not_gt _ (strict i j d h k)

-- the test of not coming after the p-th ends after it
pub ends_after : (compare : Slot → Slot → Ordering) → IsTotalOrder compare → (xs : List Slot) (p : ℕ) (s : Slot) →
    IsStrict compare xs → p < length xs → ((d : Slot) → get_or xs p d ≡ s) →
    EndsAt (λ q. is_le (compare q s)) xs (p + 1)
ends_after compare total xs p s strict lt is = (
  λ k d low h. elim (cases_lt k p) [
    | inl less ↦ ap (λ x. is_le (compare (get_or xs k d) x)) (sym (is d)) ∙ lt_le _ (strict k p d less lt)
    | inr same ↦
        let e : k ≡ p = omega arith in
        ap (λ n. is_le (compare (get_or xs n d) s)) e ∙ (ap (λ x. is_le (compare x s)) (is d)
        ∙ ap is_le (tied_itself total s))
  ],
  λ k d ge h. gt_not_le _ (sym (lt_is_gt compare total s (get_or xs k d))
      ∙ (ap (λ x. is_lt (compare x (get_or xs k d))) (sym (is d)) ∙ strict p k d (omega arith) h)),
)

-- the test of coming before the p-th ends there
pub ends_before : (compare : Slot → Slot → Ordering) → IsTotalOrder compare → (xs : List Slot) (p : ℕ) (s : Slot) →
    IsStrict compare xs → p < length xs → ((d : Slot) → get_or xs p d ≡ s) → EndsAt (λ q. is_lt (compare q s)) xs p
ends_before compare total xs p s strict lt is = (
  λ k d low h. ap (λ x. is_lt (compare (get_or xs k d) x)) (sym (is d)) ∙ strict k p d h lt,
  λ k d ge h. elim (cases_lt p k) [
    | inl more ↦ gt_not_lt _ (sym (lt_is_gt compare total s (get_or xs k d))
        ∙ (ap (λ x. is_lt (compare x (get_or xs k d))) (sym (is d)) ∙ strict p k d more h))
    | inr same ↦
        let e : k ≡ p = omega arith in
        ap (λ n. is_lt (compare (get_or xs n d) s)) e ∙ (ap (λ x. is_lt (compare x s)) (is d)
        ∙ ap is_lt (tied_itself total s))
  ],
)

pub before_is : (xs : List Slot) (c : ℕ) → last_of_first None xs c ≡ before_in xs c
before_is xs zero = refl
before_is xs (suc c) = refl

-- ---- as clauses

pub some_first : (t : Slot → Bool) (xs : List Slot) (r : Option PlacedSlot) → slot_in r ≡ find (λ x. not (t x)) xs →
    (compare : Slot → Slot → Ordering) → IsTotalOrder compare → IsRanked compare xs →
    IfSome r (λ s. IsFirstOf compare t xs s.slot)
some_first t xs None e compare total ranked = tt
some_first t xs (Some p) e compare total ranked = first_found compare total t xs ranked p.slot (sym e)

pub none_first : (t : Slot → Bool) (xs : List Slot) (r : Option PlacedSlot) → slot_in r ≡ find (λ x. not (t x)) xs →
    IfNone r (All (λ x. t x ≡ true) xs)
none_first t xs None e = none_found t xs (sym e)
none_first t xs (Some p) e = tt

pub some_last : (t : Slot → Bool) (xs : List Slot) (r : Option PlacedSlot) → slot_in r ≡ find_last t xs →
    (compare : Slot → Slot → Ordering) → IsTotalOrder compare → IsRanked compare xs →
    IfSome r (λ s. IsLastOf compare t xs s.slot)
some_last t xs None e compare total ranked = tt
some_last t xs (Some p) e compare total ranked = last_found compare total t xs ranked p.slot (sym e)

pub none_past : (t : Slot → Bool) (xs : List Slot) (r : Option PlacedSlot) → slot_in r ≡ find_last t xs →
    IfNone r (All (λ x. t x ≡ false) xs)
none_past t xs None e = none_last t xs (sym e)
none_past t xs (Some p) e = tt

-- ---- places

pub is_present_there : (ls : List (List Slot)) (b o : ℕ) (s : Slot) → b < length ls → o < length (get_or ls b []) →
    get_or (get_or ls b []) o blank ≡ s → (d : Slot) → get_or (flattened ls) (start_of ls b + o) d ≡ s
is_present_there ls b o s h k is d = at_place ls b o d h k ∙ (get_or_default (get_or ls b []) o d blank k ∙ is)

pub place_inside : (ls : List (List Slot)) (b o : ℕ) → b < length ls → o < length (get_or ls b []) →
    start_of ls b + o < length (flattened ls)
place_inside ls b o h k =
    let more : start_of ls (b + 1) ≡ start_of ls b + length (get_or ls b []) = start_of-more ls b h in
    let within : start_of ls (b + 1) ≤ length (flattened ls) = start_of-within ls (b + 1) in
    omega arith

-- the end of the block before one
pub end_before : (ls : List (List Slot)) (b o : ℕ) → 0 < b → b < length ls → o ≡ 0 →
    0 < length (get_or ls (b - 1) []) → start_of ls b + o ≡ suc (start_of ls (b - 1) + (length (get_or ls (b - 1) []) -
    1))
end_before ls b o some h z more =
    let one : (b - 1) + 1 ≡ b = omega arith in
    let next : start_of ls ((b - 1) + 1) ≡ start_of ls (b - 1) + length (get_or ls (b - 1) []) =
    start_of-more ls (b - 1) (omega arith) in
    let same : start_of ls ((b - 1) + 1) ≡ start_of ls b = ap (start_of ls) one in
    omega arith

pub next_found : (compare : Slot → Slot → Ordering) → IsTotalOrder compare →
    (ls : List (List Slot)) (b o : ℕ) (s : Slot) → IsStrict compare (flattened ls) → b < length ls →
    o < length (get_or ls b []) → get_or (get_or ls b []) o blank ≡ s →
    slice_get (flattened ls) (start_of ls b + (o + 1)) ≡ find (λ p. not (is_le (compare p s))) (flattened ls)
next_found compare total ls b o s strict h k is =
    ap (slice_get (flattened ls)) (omega arith)
    ∙ sym (find-end (λ p. is_le (compare p s)) (flattened ls) ((start_of ls b + o) + 1)
    (ends_after compare total (flattened ls) (start_of ls b + o) s strict (place_inside ls b o h k) (is_present_there ls b o
    s h k is)))

pub previous_found : (compare : Slot → Slot → Ordering) → IsTotalOrder compare →
    (ls : List (List Slot)) (b o : ℕ) (s : Slot) → IsStrict compare (flattened ls) → b < length ls →
    o < length (get_or ls b []) → get_or (get_or ls b []) o blank ≡ s →
    before_in (flattened ls) (start_of ls b + o) ≡ find_last (λ p. is_lt (compare p s)) (flattened ls)
previous_found compare total ls b o s strict h k is =
    let lt : start_of ls b + o < length (flattened ls) = place_inside ls b o h k in
    sym (last_from-end (λ p. is_lt (compare p s)) None (flattened ls) (start_of ls b + o) (omega arith)
    (ends_before compare total (flattened ls) (start_of ls b + o) s strict lt (is_present_there ls b o s h k is))
    ∙ before_is (flattened ls) (start_of ls b + o))

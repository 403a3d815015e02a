-- The order of slots, and what is where a test ends in it.
use Rattle.std.proofs.Common.{◌≡◌, ℕ, zero, suc, ◌+◌, ◌<◌, ◌≤◌, min, Bool, true, false, not, List, [], ◌∷◌, ◌++◌, length, take, get_or, refl, sym, ap, subst, ◌∙◌, inl, inr, ◌⊎◌, arith, true≢false, All, filter}
use Rattle.std.specs.Prelude.{nat_lt, ◌||◌, ◌&&◌, ◌==◌}
use Rattle.std.proofs.lemmas.Bool.{cases_Bool, cases_lt}
use Rattle.std.proofs.lemmas.Bool.Decides.{nat_tests}
use Rattle.std.proofs.lemmas.Cmp.{upto, tied_itself, then_total, on_total, nat_list_cmp_total, nat_cmp_total}
use Rattle.std.proofs.lemmas.Map.Text.{is_eq-slice_cmp}
use Rattle.std.proofs.lemmas.Map.Keys.{IsDistinct-IsPermutation, IsDistinct-from_apart, apart_from_distinct}
use Rattle.std.proofs.lemmas.Slice.Eq.{bytes_eq-Decides}
use Rattle.std.proofs.lemmas.List.{get_or_append_left, get_or-take, get_or_at, get_or_default, length-take, length-append, append-nil}
use Rattle.std.proofs.lemmas.List.Elements.{All-push, All-cons, All-filter, All-weaker, filter_passes, All-contains, filter-append}
use Rattle.std.proofs.lemmas.List.Sorted.{Contains-permutation, All-permutation as All-moved}
use Rattle.std.proofs.lemmas.List.Kept.{AllPairs-filter, AllPairs-cons}
use Rattle.std.specs.List.{Contains, AllPairs}
use Rattle.std.specs.List.Sorted.{IsPermutation, IsPartitionedBy}
use Rattle.std.specs.Cmp.{IsTotalOrder}
use Rattle.std.specs.Cmp.Lexicographic.{slice_cmp}
use Rattle.std.specs.Ordering.{nat_cmp, ordering_then, ordering_reverse, is_lt, is_gt, is_eq, is_le}
use Rattle.std.specs.declared.cmp.Ordering.{Ordering}
use Rattle.std.specs.declared.cmp.Ordering.TheVariants.{Less, Equal, Greater}
use Rattle.warc_order.specs.declared.mark.Mark.{Mark}
use Rattle.warc_order.specs.declared.slot.Slot.{Slot}
use Rattle.warc_order.specs.Hashes.{hash_of}
use Rattle.warc_order.specs.Ranking.{IsRanked, IsStrict, IsFirstOf, IsLastOf}
use Rattle.warc_order.specs.Entries.{Entry, no_entry, entry_at, mark_lt, comes_later, IsUpTo, IsFrom, IsAfter, IsBefore, HasPosition, IsFirst, IsLast, IsNone}
use Rattle.warc_order.specs.Layout.{Key, mark_cmp, text_cmp, key_cmp, key_at, key_for, slot_order, slot_for, slots_of, same_index, IsSlotOf, IsOrderOf, IsGrowing, IsOrdered, AreWaiting}

pub mark_total : IsTotalOrder mark_cmp
mark_total = then_total (on_total (λ (m : Mark). m.major) nat_cmp_total) (on_total (λ (m : Mark). m.minor)
    nat_cmp_total)

pub text_total : IsTotalOrder text_cmp
text_total = then_total (on_total (λ (k : Key). k.hash) nat_cmp_total) (on_total (λ (k : Key). k.text)
    nat_list_cmp_total)

pub key_total : IsTotalOrder key_cmp
key_total = then_total text_total (on_total (λ (k : Key). k.mark) mark_total)

pub slot_order_total : (es : List Entry) → IsTotalOrder (slot_order es)
slot_order_total es = then_total (on_total (key_at es) key_total) (on_total (λ (s : Slot). s.index) nat_cmp_total)

-- ---- orderings

pub then_not_gt : (o p : Ordering) → is_gt (ordering_then o p) ≡ false → is_gt o ≡ false
then_not_gt Less p e = refl
then_not_gt Equal p e = refl
then_not_gt Greater p e = e

pub tie_then : (o p : Ordering) → o ≡ Equal → ordering_then o p ≡ p
tie_then o p e = ap (λ x. ordering_then x p) e

pub le_not_gt : (o : Ordering) → is_le o ≡ true → is_gt o ≡ false
le_not_gt Less e = refl
le_not_gt Equal e = refl
le_not_gt Greater e = absurd (true≢false (sym e))

pub not_gt_le : (o : Ordering) → is_gt o ≡ false → is_le o ≡ true
not_gt_le Less e = refl
not_gt_le Equal e = refl
not_gt_le Greater e = absurd (true≢false e)

not_le_gt : (o : Ordering) → is_le o ≡ false → is_gt o ≡ true
not_le_gt Less e = absurd (true≢false e)
not_le_gt Equal e = absurd (true≢false e)
not_le_gt Greater e = refl

gt_not_le : (o : Ordering) → is_gt o ≡ true → is_le o ≡ false
gt_not_le Less e = absurd (true≢false (sym e))
gt_not_le Equal e = absurd (true≢false (sym e))
gt_not_le Greater e = refl

lt_not_gt : (o : Ordering) → is_lt o ≡ true → is_gt o ≡ false
lt_not_gt Less e = refl
lt_not_gt Equal e = refl
lt_not_gt Greater e = absurd (true≢false (sym e))

gt_not_lt : (o : Ordering) → is_gt o ≡ true → is_lt o ≡ false
gt_not_lt Less e = absurd (true≢false (sym e))
gt_not_lt Equal e = refl
gt_not_lt Greater e = refl

lt_reverse : (o : Ordering) → is_lt (ordering_reverse o) ≡ is_gt o
lt_reverse Less = refl
lt_reverse Equal = refl
lt_reverse Greater = refl

-- one is less where the other is greater
pub lt_is_gt : {K : Type 0} (R : K → K → Ordering) → IsTotalOrder R → (a b : K) → is_lt (R a b) ≡ is_gt (R b a)
lt_is_gt R total a b = ap is_lt (total.antisymm a b) ∙ lt_reverse (R b a)

tie_of : (o : Ordering) → is_gt o ≡ false → is_lt o ≡ false → o ≡ Equal
tie_of Less e f = absurd (true≢false f)
tie_of Equal e f = refl
tie_of Greater e f = absurd (true≢false e)

then_tie_left : (o p : Ordering) → ordering_then o p ≡ Equal → p ≡ Equal
then_tie_left Less p e = cc
then_tie_left Equal p e = e
then_tie_left Greater p e = cc

-- texts that are not above one another are the same
pub same_text : (a b : Key) → is_gt (text_cmp a b) ≡ false → is_gt (text_cmp b a) ≡ false → a.text ≡ b.text
same_text a b up down =
    let tie : text_cmp a b ≡ Equal = tie_of (text_cmp a b) up (lt_is_gt text_cmp text_total a b ∙ down) in
    let texts : slice_cmp nat_cmp a.text b.text ≡ Equal = then_tie_left (nat_cmp a.hash b.hash) (slice_cmp nat_cmp
    a.text b.text) tie in
    (bytes_eq-Decides a.text b.text).0 (sym (is_eq-slice_cmp a.text b.text) ∙ ap is_eq texts)

-- keys of one text are in the order of their marks
pub same_key_text : (text : List ℕ) (m w : Mark) → key_cmp (key_for text m) (key_for text w) ≡ mark_cmp m w
same_key_text text m w = tie_then (text_cmp (key_for text m) (key_for text w)) (mark_cmp m w) (tied_itself text_total
    (key_for text m))

-- ---- where a test of keys ends

pub cut_le : (es : List Entry) (ss : List Slot) (k : Key) → IsRanked (slot_order es) ss →
    IsPartitionedBy (λ s. is_le (key_cmp (key_at es s) k)) ss
cut_le es ss k ranked i j d le lt hit = elim (cases_lt i j) [
  | inl low ↦
      let a : Slot = get_or ss i d in
      let b : Slot = get_or ss j d in
      let up : is_gt (key_cmp (key_at es a) (key_at es b)) ≡ false =
      then_not_gt (key_cmp (key_at es a) (key_at es b)) (nat_cmp a.index b.index) (ranked i j d low lt) in
      not_gt_le _ (upto key_total (key_at es a) (key_at es b) k up (le_not_gt _ hit))
  | inr high ↦
      let e : j ≡ i = omega arith in
      ap (λ n. is_le (key_cmp (key_at es (get_or ss n d)) k)) (sym e) ∙ hit
]

pub cut_lt : (es : List Entry) (ss : List Slot) (k : Key) → IsRanked (slot_order es) ss →
    IsPartitionedBy (λ s. is_lt (key_cmp (key_at es s) k)) ss
cut_lt es ss k ranked i j d le lt hit = elim (cases_lt i j) [
  | inl low ↦
      let a : Key = key_at es (get_or ss i d) in
      let b : Key = key_at es (get_or ss j d) in
      let up : is_gt (key_cmp a b) ≡ false = then_not_gt (key_cmp a b) (nat_cmp (get_or ss i d).index (get_or ss j
      d).index) (ranked i j d low lt) in
      elim (cases_Bool (is_lt (key_cmp a k))) [
        | inl good ↦ good
        | inr bad ↦
            let back : is_gt (key_cmp k a) ≡ false = sym (lt_is_gt key_cmp key_total a k) ∙ bad in
            let far : is_gt (key_cmp k b) ≡ false = upto key_total k a b back up in
            absurd (true≢false (sym hit ∙ (lt_is_gt key_cmp key_total b k ∙ far)))
      ]
  | inr high ↦
      let e : j ≡ i = omega arith in
      ap (λ n. is_lt (key_cmp (key_at es (get_or ss n d)) k)) (sym e) ∙ hit
]

-- ---- slots and entries

-- the key of a slot of an order
pub key_of_slot : (es : List Entry) (s : Slot) → s ≡ slot_for es s.index →
    key_at es s ≡ key_for (entry_at es s.index).text (entry_at es s.index).mark
key_of_slot es s is = ap (λ h. record {
  hash = h;
  text = (entry_at es s.index).text;
  mark =
      (entry_at es s.index).mark;
}) (ap (λ (f : Slot). f.hash) is)

-- a slot of the text has the text's key
pub key_with : (es : List Entry) (s : Slot) (text : List ℕ) → s ≡ slot_for es s.index →
    (entry_at es s.index).text ≡ text → key_at es s ≡ key_for text (entry_at es s.index).mark
key_with es s text is same = key_of_slot es s is ∙ ap (λ t. key_for t (entry_at es s.index).mark) same

pub cmp_with : (es : List Entry) (s : Slot) (text : List ℕ) (mark : Mark) → s ≡ slot_for es s.index →
    (entry_at es s.index).text ≡ text → key_cmp (key_at es s) (key_for text mark) ≡ mark_cmp (entry_at es s.index).mark
    mark
cmp_with es s text mark is same = ap (λ k. key_cmp k (key_for text mark)) (key_with es s text is same)
    ∙ same_key_text text (entry_at es s.index).mark mark

-- two slots of one text
pub order_with : (es : List Entry) (s t : Slot) → s ≡ slot_for es s.index → t ≡ slot_for es t.index →
    (entry_at es s.index).text ≡ (entry_at es t.index).text → slot_order es s t ≡ ordering_then (mark_cmp (entry_at es
    s.index).mark (entry_at es t.index).mark) (nat_cmp s.index t.index)
order_with es s t is it same =
    ap (λ o. ordering_then o (nat_cmp s.index t.index))
    (ap (λ k. key_cmp (key_at es s) k) (key_of_slot es t it) ∙ cmp_with es s (entry_at es t.index).text (entry_at es
    t.index).mark is same)

-- ---- marks and positions

mark_le : (a b : Mark) → is_le (mark_cmp a b) ≡ not (mark_lt b a)
mark_le a b = grind (arith, nat_tests)

mark_less : (a b : Mark) → is_lt (mark_cmp a b) ≡ mark_lt a b
mark_less a b = grind (arith, nat_tests)

later_gt : (a b : Mark) (i j : ℕ) → is_gt (ordering_then (mark_cmp a b) (nat_cmp i j)) ≡ (mark_lt b a || (not (mark_lt
    a b) && nat_lt j i))
later_gt a b i j = grind (arith, nat_tests)

not_true : (b : Bool) → not b ≡ true → b ≡ false
not_true true e = absurd (true≢false (sym e))
not_true false e = refl

not_false : (b : Bool) → b ≡ false → not b ≡ true
not_false b e = ap not e

lt_rises : (i j p q : ℕ) → (i < j → p < q) → (j < i → q < p) → (i ≡ j → p ≡ q) → nat_lt i j ≡ nat_lt p q
lt_rises i j p q up down tie = elim (cases_lt i j) [
  | inl a ↦ let b : p < q = up a in grind (arith, nat_tests)
  | inr a ↦ elim (cases_lt j i) [
    | inl b ↦ let c : q < p = down b in grind (arith, nat_tests)
    | inr b ↦ let c : p ≡ q = tie (omega arith) in grind (arith, nat_tests)
  ]
]

positions_rise : (es : List Entry) (i j : ℕ) → IsGrowing es → i < length es → j < length es →
    nat_lt i j ≡ nat_lt (entry_at es i).position (entry_at es j).position
positions_rise es i j growing h k = lt_rises i j (entry_at es i).position (entry_at es j).position (λ a. growing i j
    no_entry a k) (λ a. growing j i no_entry a h) (λ e. ap (λ n. (entry_at es n).position) e)

-- the order of two slots of one text says which entry is later
pub later_is : (es : List Entry) (s t : Slot) → IsGrowing es → IsSlotOf es (length es) s → IsSlotOf es (length es) t →
    (entry_at es s.index).text ≡ (entry_at es t.index).text → is_gt (slot_order es s t) ≡ comes_later (entry_at es s.index)
    (entry_at es t.index)
later_is es s t growing hs ht same =
    ap is_gt (order_with es s t hs.slot ht.slot same)
    ∙ (later_gt (entry_at es s.index).mark (entry_at es t.index).mark s.index t.index
    ∙ ap (λ b. mark_lt (entry_at es t.index).mark (entry_at es s.index).mark || (not (mark_lt (entry_at es
    s.index).mark (entry_at es t.index).mark) && b))
    (positions_rise es t.index s.index growing ht.index hs.index))

-- ---- what an order holds

pub slot_in_order : (es : List Entry) (ss : List Slot) (s : Slot) → IsOrderOf es (length es) ss → Contains ss s →
    IsSlotOf es (length es) s
slot_in_order es ss s it c = All-contains (IsSlotOf es (length es)) ss s it.within c

pub entry_is_present : (es : List Entry) (i : ℕ) → i < length es → Contains es (entry_at es i)
entry_is_present es i h = (i, h, get_or_default es i (entry_at es i) no_entry h)

-- what holds of every entry that has a slot holds of every entry
by_index : (es : List Entry) (P : Entry → Type 0) → ((k : ℕ) → k < length es → P (entry_at es k)) → (q : Entry) →
    Contains es q → P q
by_index es P all q (k, lt, e) = subst P (get_or_default es k no_entry q lt ∙ e) (all k lt)

one_slot : (es : List Entry) (k : ℕ) → k < length es → IsSlotOf es (length es) (slot_for es k)
one_slot es k lt = record { index = lt; slot = refl }

-- no entry is at a position where the n-th isn't, those before it are below, and those from it on aren't
pub none_at : (es : List Entry) (n position : ℕ) → IsGrowing es →
    ((k : ℕ) → k < n → (entry_at es k).position < position) →
    ((k : ℕ) → n ≤ k → k < length es → position ≤ (entry_at es k).position) →
    (n < length es → (entry_at es n).position ≡ position → ⊥) → IsNone es (HasPosition position)
none_at es n position growing below above other = by_index es (λ q. HasPosition position q → ⊥) (λ k lt is.
    elim (cases_lt k n) [
      | inl low ↦ let near : (entry_at es k).position < position = below k low in omega (arith, is.position_is)
      | inr high ↦ elim (cases_lt n k) [
        | inl far ↦
            let least : position ≤ (entry_at es n).position = above n (omega arith) (omega arith) in
            let rise : (entry_at es n).position < (entry_at es k).position = growing n k no_entry far lt in
            omega (arith, is.position_is)
        | inr tie ↦
            let same : k ≡ n = omega arith in
            other (omega arith) (sym (ap (λ m. (entry_at es m).position) same) ∙ is.position_is)
      ]
    ])

-- ---- the look-ups

pub last_up_to : (es : List Entry) (ss : List Slot) (text : List ℕ) (mark : Mark) (s : Slot) → IsOrdered es ss →
    IsLastOf (slot_order es) (λ f. is_le (key_cmp (key_at es f) (key_for text mark))) ss s →
    (entry_at es s.index).text ≡ text → IsLast es (IsUpTo text mark) (entry_at es s.index)
last_up_to es ss text mark s it last same =
    let here : IsSlotOf es (length es) s = slot_in_order es ss s it.order last.is_present in
    record {
      is_present = entry_is_present es s.index here.index;
      passes = record {
        text_is = same;
        up_to = not_true _ (sym (mark_le (entry_at es s.index).mark mark)
            ∙ (sym (ap is_le (cmp_with es s text mark here.slot same)) ∙ last.passes));
      };
      last = by_index es (λ q. IsUpTo text mark q → comes_later q (entry_at es s.index) ≡ false) (λ k lt p.
          sym (later_is es (slot_for es k) s it.growing (one_slot es k lt) here (p.text_is ∙ sym same))
          ∙ last.last (slot_for es k) (it.order.all k lt) (ap is_le (cmp_with es (slot_for es k) text mark refl
          p.text_is) ∙ (mark_le (entry_at es k).mark mark ∙ not_false _ p.up_to)));
    }

pub none_up_to : (es : List Entry) (ss : List Slot) (text : List ℕ) (mark : Mark) → IsOrdered es ss →
    All (λ f. is_le (key_cmp (key_at es f) (key_for text mark)) ≡ false) ss → IsNone es (IsUpTo text mark)
none_up_to es ss text mark it all = by_index es (λ q. IsUpTo text mark q → ⊥) (λ k lt p.
    true≢false (sym (ap is_le (cmp_with es (slot_for es k) text mark refl p.text_is)
    ∙ (mark_le (entry_at es k).mark mark ∙ not_false _ p.up_to))
    ∙ All-contains (λ f. is_le (key_cmp (key_at es f) (key_for text mark)) ≡ false) ss (slot_for es k) all
    (it.order.all k lt)))

-- a slot between two keys of one text has that text
between : (es : List Entry) (s : Slot) (a b : Key) → a.text ≡ b.text →
    text_cmp a (key_at es s) ≡ text_cmp b (key_at es s) → is_gt (key_cmp a (key_at es s)) ≡ false →
    is_gt (key_cmp (key_at es s) b) ≡ false → (entry_at es s.index).text ≡ b.text
between es s a b same tie low high =
    let up : is_gt (text_cmp (key_at es s) b) ≡ false = then_not_gt (text_cmp (key_at es s) b) (mark_cmp (key_at es
    s).mark b.mark) high in
    let down : is_gt (text_cmp b (key_at es s)) ≡ false = sym (ap is_gt tie)
    ∙ then_not_gt (text_cmp a (key_at es s)) (mark_cmp a.mark (key_at es s).mark) low in
    same_text (key_at es s) b up down

pub other_up_to : (es : List Entry) (ss : List Slot) (text : List ℕ) (mark : Mark) (s : Slot) → IsOrdered es ss →
    IsLastOf (slot_order es) (λ f. is_le (key_cmp (key_at es f) (key_for text mark))) ss s →
    ((entry_at es s.index).text ≡ text → ⊥) → IsNone es (IsUpTo text mark)
other_up_to es ss text mark s it last other = by_index es (λ q. IsUpTo text mark q → ⊥) (λ k lt p.
    let f : Slot = slot_for es k in
    let quiet : is_gt (slot_order es f s) ≡ false = last.last f (it.order.all k lt) (ap is_le (cmp_with es f text mark
    refl p.text_is) ∙ (mark_le (entry_at es k).mark mark ∙ not_false _ p.up_to)) in
    let keys : is_gt (key_cmp (key_at es f) (key_at es s)) ≡ false =
    then_not_gt (key_cmp (key_at es f) (key_at es s)) (nat_cmp f.index s.index) quiet in
    other (between es s (key_at es f) (key_for text mark) p.text_is (ap (λ u. text_cmp (key_for u mark) (key_at es s))
    p.text_is) keys (le_not_gt _ last.passes)))

pub first_from : (es : List Entry) (ss : List Slot) (text : List ℕ) (mark : Mark) (s : Slot) → IsOrdered es ss →
    IsFirstOf (slot_order es) (λ f. is_lt (key_cmp (key_at es f) (key_for text mark))) ss s →
    (entry_at es s.index).text ≡ text → IsFirst es (IsFrom text mark) (entry_at es s.index)
first_from es ss text mark s it first same =
    let here : IsSlotOf es (length es) s = slot_in_order es ss s it.order first.is_present in
    record {
      is_present = entry_is_present es s.index here.index;
      passes = record {
        text_is = same;
        from = sym (mark_less (entry_at es s.index).mark mark)
            ∙ (sym (ap is_lt (cmp_with es s text mark here.slot same)) ∙ first.fails);
      };
      first = by_index es (λ q. IsFrom text mark q → comes_later (entry_at es s.index) q ≡ false) (λ k lt p.
          sym (later_is es s (slot_for es k) it.growing here (one_slot es k lt) (same ∙ sym p.text_is))
          ∙ first.first (slot_for es k) (it.order.all k lt) (ap is_lt (cmp_with es (slot_for es k) text mark refl
          p.text_is) ∙ (mark_less (entry_at es k).mark mark ∙ p.from)));
    }

pub none_from : (es : List Entry) (ss : List Slot) (text : List ℕ) (mark : Mark) → IsOrdered es ss →
    All (λ f. is_lt (key_cmp (key_at es f) (key_for text mark)) ≡ true) ss → IsNone es (IsFrom text mark)
none_from es ss text mark it all = by_index es (λ q. IsFrom text mark q → ⊥) (λ k lt p.
    true≢false (sym (All-contains (λ f. is_lt (key_cmp (key_at es f) (key_for text mark)) ≡ true) ss (slot_for es k)
    all (it.order.all k lt))
    ∙ (ap is_lt (cmp_with es (slot_for es k) text mark refl p.text_is) ∙ (mark_less (entry_at es k).mark mark
    ∙ p.from))))

pub other_from : (es : List Entry) (ss : List Slot) (text : List ℕ) (mark : Mark) (s : Slot) → IsOrdered es ss →
    IsFirstOf (slot_order es) (λ f. is_lt (key_cmp (key_at es f) (key_for text mark))) ss s →
    ((entry_at es s.index).text ≡ text → ⊥) → IsNone es (IsFrom text mark)
other_from es ss text mark s it first other = by_index es (λ q. IsFrom text mark q → ⊥) (λ k lt p.
    let f : Slot = slot_for es k in
    let quiet : is_gt (slot_order es s f) ≡ false = first.first f (it.order.all k lt) (ap is_lt (cmp_with es f text mark
    refl p.text_is) ∙ (mark_less (entry_at es k).mark mark ∙ p.from)) in
    let keys : is_gt (key_cmp (key_at es s) (key_at es f)) ≡ false =
    then_not_gt (key_cmp (key_at es s) (key_at es f)) (nat_cmp s.index f.index) quiet in
    let past : is_gt (key_cmp (key_for text mark) (key_at es s)) ≡ false =
    sym (lt_is_gt key_cmp key_total (key_at es s) (key_for text mark)) ∙ first.fails in
    other (between es s (key_for text mark) (key_at es f) (sym p.text_is) (ap (λ u. text_cmp (key_for u mark) (key_at
    es s)) (sym p.text_is)) past keys ∙ p.text_is))

-- ---- steps

pub next_entry : (es : List Entry) (ss : List Slot) (i : ℕ) (s : Slot) → IsOrdered es ss → i < length es →
    IsFirstOf (slot_order es) (λ f. is_le (slot_order es f (slot_for es i))) ss s →
    (entry_at es s.index).text ≡ (entry_at es i).text → IsFirst es (IsAfter (entry_at es i)) (entry_at es s.index)
next_entry es ss i s it h first same =
    let here : IsSlotOf es (length es) s = slot_in_order es ss s it.order first.is_present in
    record {
      is_present = entry_is_present es s.index here.index;
      passes = record {
        text_is = same;
        later = sym (later_is es s (slot_for es i) it.growing here (one_slot es i h)
            same) ∙ not_le_gt _ first.fails;
      };
      first = by_index es (λ q. IsAfter (entry_at es i) q → comes_later (entry_at es s.index) q ≡ false) (λ k lt p.
          sym (later_is es s (slot_for es k) it.growing here (one_slot es k lt) (same ∙ sym p.text_is))
          ∙ first.first (slot_for es k) (it.order.all k lt) (gt_not_le _ (later_is es (slot_for es k) (slot_for es i)
          it.growing (one_slot es k lt) (one_slot es i h) p.text_is ∙ p.later)));
    }

pub none_next : (es : List Entry) (ss : List Slot) (i : ℕ) → IsOrdered es ss → i < length es →
    All (λ f. is_le (slot_order es f (slot_for es i)) ≡ true) ss → IsNone es (IsAfter (entry_at es i))
none_next es ss i it h all = by_index es (λ q. IsAfter (entry_at es i) q → ⊥) (λ k lt p.
    true≢false (sym (All-contains (λ f. is_le (slot_order es f (slot_for es i)) ≡ true) ss (slot_for es k) all
    (it.order.all k lt))
    ∙ gt_not_le _ (later_is es (slot_for es k) (slot_for es i) it.growing (one_slot es k lt) (one_slot es i h)
    p.text_is ∙ p.later)))

pub other_next : (es : List Entry) (ss : List Slot) (i : ℕ) (s : Slot) → IsOrdered es ss → i < length es →
    IsFirstOf (slot_order es) (λ f. is_le (slot_order es f (slot_for es i))) ss s →
    ((entry_at es s.index).text ≡ (entry_at es i).text → ⊥) → IsNone es (IsAfter (entry_at es i))
other_next es ss i s it h first other = by_index es (λ q. IsAfter (entry_at es i) q → ⊥) (λ k lt p.
    let f : Slot = slot_for es k in
    let a : Slot = slot_for es i in
    let quiet : is_gt (slot_order es s f) ≡ false = first.first f (it.order.all k lt) (gt_not_le _ (later_is es f a
    it.growing (one_slot es k lt) (one_slot es i h) p.text_is ∙ p.later)) in
    let keys : is_gt (key_cmp (key_at es s) (key_at es f)) ≡ false =
    then_not_gt (key_cmp (key_at es s) (key_at es f)) (nat_cmp s.index f.index) quiet in
    let past : is_gt (slot_order es a s) ≡ false = lt_not_gt _ (lt_is_gt (slot_order es) (slot_order_total es) a s
    ∙ not_le_gt _ first.fails) in
    let low : is_gt (key_cmp (key_at es a) (key_at es s)) ≡ false =
    then_not_gt (key_cmp (key_at es a) (key_at es s)) (nat_cmp a.index s.index) past in
    other (between es s (key_at es a) (key_at es f) (sym p.text_is) (ap (λ u. text_cmp (key_for u (entry_at es i).mark)
    (key_at es s)) (sym p.text_is)) low keys ∙ p.text_is))

pub previous_entry : (es : List Entry) (ss : List Slot) (i : ℕ) (s : Slot) → IsOrdered es ss → i < length es →
    IsLastOf (slot_order es) (λ f. is_lt (slot_order es f (slot_for es i))) ss s →
    (entry_at es s.index).text ≡ (entry_at es i).text → IsLast es (IsBefore (entry_at es i)) (entry_at es s.index)
previous_entry es ss i s it h last same =
    let here : IsSlotOf es (length es) s = slot_in_order es ss s it.order last.is_present in
    record {
      is_present = entry_is_present es s.index here.index;
      passes = record {
        text_is = same;
        later = sym (later_is es (slot_for es i) s it.growing (one_slot es i h) here
            (sym same)) ∙ (sym (lt_is_gt (slot_order es) (slot_order_total es) s (slot_for es i)) ∙ last.passes);
      };
      last = by_index es (λ q. IsBefore (entry_at es i) q → comes_later q (entry_at es s.index) ≡ false) (λ k lt p.
          sym (later_is es (slot_for es k) s it.growing (one_slot es k lt) here (p.text_is ∙ sym same))
          ∙ last.last (slot_for es k) (it.order.all k lt) (lt_is_gt (slot_order es) (slot_order_total es) (slot_for es k)
          (slot_for es i) ∙ (later_is es (slot_for es i) (slot_for es k) it.growing (one_slot es i h) (one_slot es
          k lt) (sym p.text_is) ∙ p.later)));
    }

pub none_previous : (es : List Entry) (ss : List Slot) (i : ℕ) → IsOrdered es ss → i < length es →
    All (λ f. is_lt (slot_order es f (slot_for es i)) ≡ false) ss → IsNone es (IsBefore (entry_at es i))
none_previous es ss i it h all = by_index es (λ q. IsBefore (entry_at es i) q → ⊥) (λ k lt p.
    true≢false (sym (lt_is_gt (slot_order es) (slot_order_total es) (slot_for es k) (slot_for es i)
    ∙ (later_is es (slot_for es i) (slot_for es k) it.growing (one_slot es i h) (one_slot es k lt) (sym p.text_is)
    ∙ p.later))
    ∙ All-contains (λ f. is_lt (slot_order es f (slot_for es i)) ≡ false) ss (slot_for es k) all (it.order.all k lt)))

pub other_previous : (es : List Entry) (ss : List Slot) (i : ℕ) (s : Slot) → IsOrdered es ss → i < length es →
    IsLastOf (slot_order es) (λ f. is_lt (slot_order es f (slot_for es i))) ss s →
    ((entry_at es s.index).text ≡ (entry_at es i).text → ⊥) → IsNone es (IsBefore (entry_at es i))
other_previous es ss i s it h last other = by_index es (λ q. IsBefore (entry_at es i) q → ⊥) (λ k lt p.
    let f : Slot = slot_for es k in
    let a : Slot = slot_for es i in
    let quiet : is_gt (slot_order es f s) ≡ false = last.last f (it.order.all k lt) (lt_is_gt (slot_order es)
    (slot_order_total es) f a ∙ (later_is es a f it.growing (one_slot es i h) (one_slot es k lt) (sym p.text_is)
    ∙ p.later)) in
    let low : is_gt (key_cmp (key_at es f) (key_at es s)) ≡ false =
    then_not_gt (key_cmp (key_at es f) (key_at es s)) (nat_cmp f.index s.index) quiet in
    let past : is_gt (slot_order es s a) ≡ false = lt_not_gt _ last.passes in
    let high : is_gt (key_cmp (key_at es s) (key_at es a)) ≡ false =
    then_not_gt (key_cmp (key_at es s) (key_at es a)) (nat_cmp s.index a.index) past in
    other (between es s (key_at es f) (key_at es a) p.text_is (ap (λ u. text_cmp (key_for u (entry_at es i).mark)
    (key_at es s)) p.text_is) low high))

-- ---- slots apart

tie_is_same : (i j : ℕ) → nat_cmp i j ≡ Equal → (i == j) ≡ true
tie_is_same i j e = grind (arith, nat_tests)

pub strict_order : (es : List Entry) (n : ℕ) (ss : List Slot) → IsOrderOf es n ss → IsStrict (slot_order es) ss
strict_order es n ss it i j d h k =
    let a : Slot = get_or ss i d in
    let b : Slot = get_or ss j d in
    elim (cases_Bool (is_lt (slot_order es a b))) [
      | inl good ↦ good
      | inr bad ↦
          let tie : slot_order es a b ≡ Equal = tie_of (slot_order es a b) (it.ranked i j d h k) bad in
          let indices : nat_cmp a.index b.index ≡ Equal = then_tie_left (key_cmp (key_at es a) (key_at es b)) (nat_cmp
          a.index b.index) tie in
          absurd (true≢false (sym (tie_is_same a.index b.index indices) ∙ it.distinct i j d h k))
    ]

same_index_flips : (a b : Slot) → same_index a b ≡ same_index b a
same_index_flips a b = grind (arith, nat_tests)

lower_apart : (n i : ℕ) → i < n → (n == i) ≡ false
lower_apart n i h = grind (arith, nat_tests)

-- slots that are apart stay so when they change places
pub apart_moved : (ss ts : List Slot) → IsPermutation ss ts → AllPairs (λ a b. same_index a b ≡ false) ss →
    AllPairs (λ a b. same_index a b ≡ false) ts
apart_moved ss ts moved it i j d h k = apart_from_distinct same_index ts i j d (IsDistinct-IsPermutation same_index
    same_index_flips ss ts moved (IsDistinct-from_apart same_index ss it)) h k

pub new_apart : (es : List Entry) (n : ℕ) (ss : List Slot) → All (IsSlotOf es n) ss →
    AllPairs (λ a b. same_index a b ≡ false) ss → AllPairs (λ a b. same_index a b ≡ false) (slot_for es n ∷ ss)
new_apart es n ss all it = AllPairs-cons (λ a b. same_index a b ≡ false) (slot_for es n) ss (All-weaker (IsSlotOf es n)
    (λ y. same_index (slot_for es n) y ≡ false) (λ s w. lower_apart n s.index w.index) ss all) it

-- ---- more entries and fewer

-- the order over other entries that are the same as far as it reaches
pub carried : (es fs : List Entry) (n : ℕ) (ss : List Slot) → ((q : ℕ) → q < n → entry_at fs q ≡ entry_at es q) →
    IsOrderOf es n ss → IsOrderOf fs n ss
carried es fs n ss same it = record {
  ranked = λ i j d h k.
      let a : (get_or ss i d).index < n = (it.within i d (omega arith)).index in
      let b : (get_or ss j d).index < n = (it.within j d k).index in
      rw (same (get_or ss i d).index a, same (get_or ss j d).index b) (it.ranked i j d h k);
  within = λ i d h.
      let w : IsSlotOf es n (get_or ss i d) = it.within i d h in
      record {
        index = w.index;
        slot = w.slot ∙ ap (λ (e : Entry). record {
          hash = hash_of e.text;
          index =
              (get_or ss i d).index;
        }) (sym (same (get_or ss i d).index w.index));
      };
  all = λ q h. subst (Contains ss) (ap (λ (e : Entry). record {
    hash = hash_of e.text;
    index =
        q;
  }) (sym (same q h))) (it.all q h);
  distinct = it.distinct;
}

pub none_in_order : (es : List Entry) → IsOrderOf es 0 []
none_in_order es = record {
  ranked = λ i j d h k. absurd (omega arith);
  within = λ k d h. absurd (omega arith);
  all = λ q h. absurd (omega arith);
  distinct = λ i j d h k. absurd (omega arith);
}

contains_cons : (x : Slot) (xs : List Slot) (q : Slot) → Contains (x ∷ xs) q → (x ≡ q) ⊎ Contains xs q
contains_cons x xs q (zero, lt, e) = inl e
contains_cons x xs q (suc k, lt, e) = inr (k, omega arith, e)

contains_head : (x : Slot) (xs : List Slot) → Contains (x ∷ xs) x
contains_head x xs = (0, omega arith, refl)

contains_tail : (x : Slot) (xs : List Slot) (q : Slot) → Contains xs q → Contains (x ∷ xs) q
contains_tail x xs q (k, lt, e) = (suc k, omega arith, e)

-- with one more
pub order_more : (es : List Entry) (n : ℕ) (ss ts : List Slot) → IsOrderOf es n ss → IsRanked (slot_order es) ts →
    IsPermutation (slot_for es n ∷ ss) ts → IsOrderOf es (n + 1) ts
order_more es n ss ts it ranked moved = record {
  ranked = ranked;
  within = All-moved (IsSlotOf es (n + 1)) (slot_for es n ∷ ss) ts moved
      (All-cons (IsSlotOf es (n + 1)) (slot_for es n) ss (record { index = omega arith; slot = refl })
      (All-weaker (IsSlotOf es n) (IsSlotOf es (n + 1)) (λ s w. let lt : s.index < n = w.index in record {
        index =
            omega arith;
        slot = w.slot;
      }) ss it.within));
  all = λ q h. Contains-permutation (slot_for es n ∷ ss) ts (slot_for es q) moved (elim (cases_lt q n) [
    | inl low ↦ contains_tail (slot_for es n) ss (slot_for es q) (it.all q low)
    | inr high ↦ let e : n ≡ q = omega arith in subst (λ m. Contains (slot_for es n ∷ ss) (slot_for es m)) e
        (contains_head (slot_for es n) ss)
  ]);
  distinct = apart_moved (slot_for es n ∷ ss) ts moved (new_apart es n ss it.within it.distinct);
}

Contains-filter : (t : Slot → Bool) (xs : List Slot) (q : Slot) → Contains xs q → t q ≡ true → Contains (filter t xs) q
Contains-filter t [] q (k, lt, e) hit = absurd (omega arith)
Contains-filter t (x ∷ xs) q c hit = elim (contains_cons x xs q c) [
  | inl e ↦ rw (ap t e ∙ hit) (subst (Contains (x ∷ filter t xs)) e (contains_head x (filter t xs)))
  | inr c' ↦ elim (cases_Bool (t x)) [
    | inl more ↦ rw more (contains_tail x (filter t xs) q (Contains-filter t xs q c' hit))
    | inr miss ↦ rw miss (Contains-filter t xs q c' hit)
  ]
]

lt_holds : (q m : ℕ) → nat_lt q m ≡ true → q < m
lt_holds q m e = grind (arith, nat_tests)

holds_lt : (q m : ℕ) → q < m → nat_lt q m ≡ true
holds_lt q m h = grind (arith, nat_tests)

pub order_fewer : (es : List Entry) (n m : ℕ) (ss : List Slot) → IsOrderOf es n ss →
    IsOrderOf es (min m n) (filter (λ s. nat_lt s.index m) ss)
order_fewer es n m ss it = record {
  ranked = AllPairs-filter (λ a b. is_gt (slot_order es a b) ≡ false) (λ s. nat_lt s.index m) ss it.ranked;
  within = λ k d h.
      let w : IsSlotOf es n (get_or (filter (λ s. nat_lt s.index m) ss) k d) =
      All-filter (λ s. nat_lt s.index m) (IsSlotOf es n) ss it.within k d h in
      let a : (get_or (filter (λ s. nat_lt s.index m) ss) k d).index < n = w.index in
      let b : (get_or (filter (λ s. nat_lt s.index m) ss) k d).index < m =
      lt_holds _ m (filter_passes (λ s. nat_lt s.index m) ss k d h) in
      record { index = omega arith; slot = w.slot };
  all = λ q h. Contains-filter (λ s. nat_lt s.index m) ss (slot_for es q) (it.all q (omega arith)) (holds_lt q m (omega
      arith));
  distinct = AllPairs-filter (λ a b. same_index a b ≡ false) (λ s. nat_lt s.index m) ss it.distinct;
}

-- ---- an order of entries

pub no_entries : (es : List Entry) (ss : List Slot) → es ≡ [] → ss ≡ [] → IsOrdered es ss
no_entries es ss e f = rw (e, f) record { growing = λ i j d h k. absurd (omega arith); order = none_in_order [] }

entry_more : (es : List Entry) (e : Entry) (q : ℕ) → q < length es → entry_at (es ++ e ∷ []) q ≡ entry_at es q
entry_more es e q h = get_or_append_left es (e ∷ []) no_entry q h

-- the slots stay in order if one more entry comes after them
pub order_kept : (es fs : List Entry) (ss ts : List Slot) (e : Entry) (n : ℕ) → IsOrdered es ss → fs ≡ es ++ e ∷ [] →
    ts ≡ ss → n ≡ length es → IsOrderOf fs n ts
order_kept es fs ss ts e n it f t l = rw (f, t, l) (carried es (es ++ e ∷ []) (length es) ss (entry_more es e) it.order)

pub growing_more : (es : List Entry) (e : Entry) → IsGrowing es → All (λ f. f.position < e.position) es →
    IsGrowing (es ++ e ∷ [])
growing_more es e growing all i j d h k =
    let more : length (es ++ e ∷ []) ≡ length es + 1 = length-append es (e ∷ []) in
    elim (cases_lt j (length es)) [
      | inl low ↦ rw (get_or_append_left es (e ∷ []) d i (omega arith), get_or_append_left es (e ∷ []) d j low)
          (growing i j d h low)
      | inr high ↦
          let l : i < length es = omega arith in
          let at : get_or (es ++ e ∷ []) j d ≡ e = get_or_at es e [] d j (omega arith) in
          rw (get_or_append_left es (e ∷ []) d i l, at) (all i d l)
    ]

pub ordered_more : (es fs : List Entry) (ss ts : List Slot) (e : Entry) (n : ℕ) → IsOrdered es ss →
    fs ≡ es ++ e ∷ [] → n ≡ length es → All (λ f. f.position < e.position) es → IsOrderOf fs (n + 1) ts →
    IsOrdered fs ts
ordered_more es fs ss ts e n it f l all order =
    let more : length (es ++ e ∷ []) ≡ length es + 1 = length-append es (e ∷ []) in
    let same : length fs ≡ n + 1 = ap length f ∙ (more ∙ ap (λ m. m + 1) (sym l)) in
    record {
      growing = subst IsGrowing (sym f) (growing_more es e it.growing all);
      order = rw same order;
    }

-- fewer entries
growing_fewer : (es : List Entry) (m : ℕ) → IsGrowing es → IsGrowing (take m es)
growing_fewer es m growing i j d h k =
    let l : length (take m es) ≡ min m (length es) = length-take m es in
    rw (get_or-take m es i d (omega arith), get_or-take m es j d (omega arith)) (growing i j d h (omega arith))

pub ordered_fewer : (es fs : List Entry) (ss ts : List Slot) (m : ℕ) → IsOrdered es ss → fs ≡ take m es →
    ts ≡ filter (λ s. nat_lt s.index m) ss → IsOrdered fs ts
ordered_fewer es fs ss ts m it f t = rw (f, t) record {
  growing = growing_fewer es m it.growing;
  order = rw (length-take m es) (carried es (take m es) (min m (length es)) (filter (λ s. nat_lt s.index m) ss) (λ q h.
      get_or-take m es q no_entry (omega arith)) (order_fewer es (length es) m ss it.order));
}

-- ---- all slots at once

slots_within : (es : List Entry) (n m : ℕ) → n ≤ m → All (IsSlotOf es m) (slots_of es n)
slots_within es zero m h = λ k d lt. absurd (omega arith)
slots_within es (suc n) m h = All-push (IsSlotOf es m) (slots_of es n) (slot_for es n) (slots_within es n m (omega
    arith)) (record { index = omega arith; slot = refl })

pub length-slots_of : (es : List Entry) (n : ℕ) → length (slots_of es n) ≡ n
length-slots_of es zero = refl
length-slots_of es (suc n) = length-append (slots_of es n) (slot_for es n ∷ [])
    ∙ (ap (λ m. m + 1) (length-slots_of es n) ∙ omega arith)

slot_at : (es : List Entry) (n q : ℕ) (d : Slot) → q < n → get_or (slots_of es n) q d ≡ slot_for es q
slot_at es zero q d h = absurd (omega arith)
slot_at es (suc n) q d h = elim (cases_lt q n) [
  | inl low ↦ get_or_append_left (slots_of es n) (slot_for es n ∷ []) d q (subst (λ m. q < m) (sym (length-slots_of es
      n)) low) ∙ slot_at es n q d low
  | inr high ↦
      let e : q ≡ n = omega arith in
      ap (λ m. get_or (slots_of es (suc n)) m d) e ∙ (get_or_at (slots_of es n) (slot_for es n) [] d n (length-slots_of
      es n) ∙ ap (slot_for es) (sym e))
]

slots_all : (es : List Entry) (n q : ℕ) → q < n → Contains (slots_of es n) (slot_for es q)
slots_all es n q h = (q, subst (λ m. q < m) (sym (length-slots_of es n)) h, slot_at es n q (slot_for es q) h)

slots_apart : (es : List Entry) (n : ℕ) → AllPairs (λ a b. same_index a b ≡ false) (slots_of es n)
slots_apart es n i j d h k =
    let l : length (slots_of es n) ≡ n = length-slots_of es n in
    rw (slot_at es n i d (omega arith), slot_at es n j d (omega arith)) (same_index_flips (slot_for es i) (slot_for es
    j) ∙ lower_apart j i h)

pub order_of_all : (es : List Entry) (ss : List Slot) → IsRanked (slot_order es) ss →
    IsPermutation (slots_of es (length es)) ss → IsOrderOf es (length es) ss
order_of_all es ss ranked moved = record {
  ranked = ranked;
  within = All-moved (IsSlotOf es (length es)) (slots_of es (length es)) ss moved (slots_within es (length es) (length
      es) (omega arith));
  all = λ q h. Contains-permutation (slots_of es (length es)) ss (slot_for es q) moved (slots_all es (length es) q h);
  distinct = apart_moved (slots_of es (length es)) ss moved (slots_apart es (length es));
}

-- ---- slots that wait

slots_same : (es fs : List Entry) (n : ℕ) → ((q : ℕ) → q < n → entry_at fs q ≡ entry_at es q) →
    slots_of fs n ≡ slots_of es n
slots_same es fs zero h = refl
slots_same es fs (suc n) h =
    ap (λ us. us ++ slot_for fs n ∷ []) (slots_same es fs n (λ q lt. h q (omega arith)))
    ∙ ap (λ (e : Entry). slots_of es n ++ record { hash = hash_of e.text; index = n } ∷ []) (h n (omega arith))

pub waiting_more : (es fs : List Entry) (ss ts : List Slot) (e : Entry) (n : ℕ) → AreWaiting es ss →
    fs ≡ es ++ e ∷ [] → n ≡ length es → All (λ f. f.position < e.position) es → ts ≡ ss ++ slot_for fs n ∷ [] →
    AreWaiting fs ts
waiting_more es fs ss ts e n it f l all t =
    let more : length (es ++ e ∷ []) ≡ suc (length es) = length-append es (e ∷ []) ∙ omega arith in
    let there : ts ≡ ss ++ slot_for (es ++ e ∷ []) (length es) ∷ [] =
    t ∙ (ap (λ gs. ss ++ slot_for gs n ∷ []) f ∙ ap (λ m. ss ++ slot_for (es ++ e ∷ []) m ∷ []) l) in
    rw (f, there) record {
      growing = growing_more es e it.growing all;
      slots = ap (λ us. us ++ slot_for (es ++ e ∷ []) (length es) ∷ []) (it.slots
          ∙ sym (slots_same es (es ++ e ∷ []) (length es) (entry_more es e))) ∙ ap (slots_of (es ++ e ∷ [])) (sym more);
    }

-- of the slots of n entries those below m
slots_below : (es : List Entry) (m n : ℕ) → filter (λ s. nat_lt s.index m) (slots_of es n) ≡ slots_of es (min m n)
slots_below es m zero = ap (slots_of es) (sym (let none : min m 0 ≡ 0 = omega arith in none))
slots_below es m (suc n) =
    filter-append (λ (s : Slot). nat_lt s.index m) (slots_of es n) (slot_for es n ∷ [])
    ∙ (ap (λ us. us ++ filter (λ (s : Slot). nat_lt s.index m) (slot_for es n ∷ [])) (slots_below es m n)
    ∙ elim (cases_lt n m) [
      | inl low ↦
          let t : nat_lt n m ≡ true = grind (arith, nat_tests) in
          let a : min m n ≡ n = omega arith in
          let b : min m (suc n) ≡ suc n = omega arith in
          rw (t, a, b) refl
      | inr high ↦
          let t : nat_lt n m ≡ false = grind (arith, nat_tests) in
          let a : min m n ≡ m = omega arith in
          let b : min m (suc n) ≡ m = omega arith in
          rw (t, a, b) (append-nil (slots_of es m))
    ])

pub waiting_fewer : (es fs : List Entry) (ss ts : List Slot) (m : ℕ) → AreWaiting es ss → fs ≡ take m es →
    ts ≡ filter (λ s. nat_lt s.index m) ss → AreWaiting fs ts
waiting_fewer es fs ss ts m it f t =
    let l : length (take m es) ≡ min m (length es) = length-take m es in
    rw (f, t) record {
      growing = growing_fewer es m it.growing;
      slots = ap (filter (λ s. nat_lt s.index m)) it.slots ∙ (slots_below es m (length es)
          ∙ (sym (slots_same es (take m es) (min m (length es)) (λ q h. get_or-take m es q no_entry (omega arith)))
          ∙ ap (slots_of (take m es)) (sym l)));
    }

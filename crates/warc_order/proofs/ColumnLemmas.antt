-- Columns: the blanks at the front, and the values after them.
use Rattle.std.proofs.Common.{◌≡◌, ℕ, ◌+◌, ◌-◌, ◌<◌, ◌≤◌, List, [], ◌∷◌, ◌++◌, length, map, take, get_or, sym, ap, ◌∙◌, inl, inr, arith, min}
use Rattle.std.specs.Prelude.{Option, Some, None, unwrap_or, IfSome, IfNone}
use Rattle.std.specs.List.{range_with_len}
use Rattle.std.proofs.lemmas.Bool.{cases_lt}
use Rattle.std.proofs.lemmas.List.{get_or_append_left, get_or-append_right, append-nil, take-append-le}
use Rattle.std.proofs.lemmas.List.FromFn.{get_or-map-range_with_len, length-map-range_with_len, map-range_with_len_more, take-map-range_with_len}
use Rattle.std.proofs.Math.Seq.{take-append-add}
use Rattle.warc_order.specs.Columns.{Sparse, values, HoldsAt, IsBlankAt}

-- a blank at the front
pub blank_at : {A : Type 0} (n : ℕ) (s : Sparse A) (i : ℕ) → n ≡ s.blanks → i < n → IsBlankAt s i
blank_at n s i e lt blank =
    let l : length (map blank (range_with_len 0 s.blanks)) ≡ s.blanks =
    length-map-range_with_len blank 0 s.blanks in
    get_or_append_left (map blank (range_with_len 0 s.blanks)) s.items (blank i) i (omega arith)
    ∙ get_or-map-range_with_len blank 0 s.blanks i i (blank i) (omega arith) (omega arith)

-- a value after the blanks
item_at : {A : Type 0} (n : ℕ) (items : List A) (s : Sparse A) (i : ℕ) (blank : ℕ → A) → n ≡ s.blanks →
    items ≡ s.items → n ≤ i → get_or (values blank s) i (blank i) ≡ get_or items (i - n) (blank i)
item_at n items s i blank e f le =
    rw (e, f) (get_or-append_right (map blank (range_with_len 0 s.blanks)) s.items s.blanks i (blank i)
    (length-map-range_with_len blank 0 s.blanks) (omega arith))

-- what is read after the blanks
pub some_at : {A : Type 0} (n : ℕ) (items : List A) (s : Sparse A) (i : ℕ) (r : Option A) → n ≡ s.blanks →
    items ≡ s.items → n ≤ i → ((d : A) → unwrap_or r d ≡ get_or items (i - n) d) → IfSome r (HoldsAt s i)
some_at n items s i None e f le read = tt
some_at n items s i (Some value) e f le read = λ blank. item_at n items s i blank e f le ∙ sym (read (blank i))

pub none_at : {A : Type 0} (n : ℕ) (items : List A) (s : Sparse A) (i : ℕ) (r : Option A) → n ≡ s.blanks →
    items ≡ s.items → n ≤ i → ((d : A) → unwrap_or r d ≡ get_or items (i - n) d) → IfNone r (IsBlankAt s i)
none_at n items s i None e f le read = λ blank. item_at n items s i blank e f le ∙ sym (read (blank i))
none_at n items s i (Some value) e f le read = tt

-- one more blank, where nothing comes after it
pub one_more : {A : Type 0} (n : ℕ) (items : List A) (value : A) (blank : ℕ → A) → length items ≡ 0 →
    value ≡ blank (length (map blank (range_with_len 0 n) ++ items)) →
    map blank (range_with_len 0 (n + 1)) ++ items ≡ (map blank (range_with_len 0 n) ++ items) ++ value ∷ []
one_more n (x ∷ items) value blank none is = absurd (omega arith)
one_more n [] value blank none is =
    let l : length (map blank (range_with_len 0 n) ++ []) ≡ n = ap length (append-nil (map blank (range_with_len 0 n)))
    ∙ length-map-range_with_len blank 0 n in
    append-nil (map blank (range_with_len 0 (n + 1)))
    ∙ (map-range_with_len_more blank 0 n n (omega arith)
    ∙ (ap (λ v. map blank (range_with_len 0 n) ++ v ∷ []) (sym (is ∙ ap blank l))
    ∙ ap (λ us. us ++ value ∷ []) (sym (append-nil (map blank (range_with_len 0 n))))))

-- the first n
pub first_of : {A : Type 0} (s : Sparse A) (count n kept : ℕ) (items : List A) (blank : ℕ → A) → n ≡ min s.blanks count →
    items ≡ take kept s.items → kept ≡ count - s.blanks →
    map blank (range_with_len 0 n) ++ items ≡ take count (values blank s)
first_of s count n kept items blank e f k =
    let l : length (map blank (range_with_len 0 s.blanks)) ≡ s.blanks = length-map-range_with_len blank 0 s.blanks in
    elim (cases_lt count s.blanks) [
      | inl few ↦
          let le : count ≤ s.blanks = omega (arith, few) in
          let m : min s.blanks count ≡ count = omega (arith, few) in
          let z : count - s.blanks ≡ 0 = omega (arith, few) in
          rw (e, f, k, m, z) (append-nil (map blank (range_with_len 0 count))
          ∙ sym (take-append-le count (map blank (range_with_len 0 s.blanks)) s.items (omega (arith, few, l))
          ∙ take-map-range_with_len blank 0 s.blanks count le))
      | inr many ↦
          let m : min s.blanks count ≡ s.blanks = omega (arith, many) in
          let whole : length (map blank (range_with_len 0 s.blanks)) + (count - s.blanks) ≡ count =
          omega (arith, many, l) in
          rw (e, f, k, m) (sym (take-append-add (map blank (range_with_len 0 s.blanks)) s.items (count - s.blanks))
          ∙ ap (λ k. take k (map blank (range_with_len 0 s.blanks) ++ s.items)) whole)
    ]

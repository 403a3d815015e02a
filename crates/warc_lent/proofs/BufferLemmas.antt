-- What buffers hold after more is put into them.
use Rattle.std.proofs.Common.{◌≡◌, ℕ, ◌+◌, ◌-◌, ◌<◌, ◌≤◌, List, [], ◌∷◌, ◌++◌, length, take, drop, set, map, ◌^◌, sym, subst, ap, ◌∙◌, inl, inr, arith, Some}
use Prim.Native.Nat.{min, suc}
use Rattle.std.proofs.lemmas.Bool.{cases_lt}
use Rattle.std.proofs.lemmas.List.{append-nil, append_assoc, drop_all, drop-drop, drop-set-lt, take_all, take_min, take-append-le, take_more_set, set_past, length-append, length-drop, length-map, length-set, length-take-le, length_push, map_more, nil_from_length}
use Rattle.std.proofs.lemmas.Option.{get_or_from_slice_get, slice_get_within}
use Rattle.std.proofs.Math.Seq.{drop-append-add}
use Rattle.std.specs.List.{slice_get}
use Rattle.warc_frame.specs.Count.{capped}
use Rattle.warc_lent.specs.Buffers.{HoldsFront}
use borrow.Rule.Slice.PartMut.{put_mid}

-- what is copied as far as there is room
pub front_copied : {X : Type 0} (list old new : List X) → take (min (length list) (length old)) new ≡ take (min (length list) (length old)) list
    → length new ≡ length old → HoldsFront list new
front_copied list old new is room =
    let e : min (length list) (length old) ≡ min (length list) (length new) = omega (arith, room) in
    let f : min (length list) (length old) ≡ min (length new) (length list) = omega (arith, room) in
    sym (take_min (length list) new) ∙ ap (λ n. take n new) (sym e) ∙ is ∙ ap (λ n. take n list) f ∙ take_min (length new) list

take_after : {X : Type 0} (xs ys : List X) (n : ℕ) → take (length xs + n) (xs ++ ys) ≡ xs ++ take n ys
take_after [] ys n = let e : 0 + n ≡ n = omega arith in ap (λ k. take k ys) e
take_after (x ∷ xs) ys n =
    let e : length (x ∷ xs) + n ≡ suc (length xs + n) = omega arith in
    ap (λ k. take k (x ∷ (xs ++ ys))) e ∙ ap (λ l. x ∷ l) (take_after xs ys n)

-- the rest of a buffer holds the front of a text, and the buffer begins with what comes before
pub front_more : {X : Type 0} (before text old rest : List X) → length before < length old → HoldsFront before old → HoldsFront text rest
    → HoldsFront (before ++ text) (take (length before) old ++ rest)
front_more before text old rest within front is =
    let whole : take (length before) old ≡ before = front ∙ take_all (length old) before (omega (arith, within)) in
    let long : take (length (before ++ text)) (before ++ rest) ≡ before ++ take (length text) rest =
    ap (λ n. take n (before ++ rest)) (length-append before text) ∙ take_after before rest (length text) in
    let room : take (length (before ++ rest)) (before ++ text) ≡ before ++ take (length rest) text =
    ap (λ n. take n (before ++ text)) (length-append before rest) ∙ take_after before text (length rest) in
    let joined : HoldsFront (before ++ text) (before ++ rest) = long ∙ ap (λ l. before ++ l) is ∙ sym room in
    subst (λ l. HoldsFront (before ++ text) (l ++ rest)) (sym whole) joined

-- there is no room for more
pub front_full : {X : Type 0} (before text buffer : List X) → length buffer ≤ length before → HoldsFront before buffer
    → HoldsFront (before ++ text) buffer
front_full before text buffer full front =
    take_all (length (before ++ text)) buffer (omega (arith, full, length-append before text))
    ∙ sym (take_all (length before) buffer full) ∙ front ∙ sym (take-append-le (length buffer) before text full)

push_within : {X : Type 0} (list buffer : List X) (i : ℕ) (x : X) → length list ≡ i → HoldsFront list buffer → i < length buffer
    → HoldsFront (list ++ x ∷ []) (set buffer i x)
push_within list buffer i x at front h =
    let whole : take i buffer ≡ list = ap (λ n. take n buffer) (sym at) ∙ front ∙ take_all (length buffer) list (omega (arith, at, h)) in
    let size : length (list ++ x ∷ []) ≡ i + 1 = length_push list x ∙ ap (λ n. n + 1) at in
    let fits : length (list ++ x ∷ []) ≤ length (set buffer i x) = omega (arith, size, h, length-set buffer i x) in
    ap (λ n. take n (set buffer i x)) size ∙ take_more_set buffer i x h ∙ ap (λ l. l ++ x ∷ []) whole
    ∙ sym (take_all (length (set buffer i x)) (list ++ x ∷ []) fits)

push_past : {X : Type 0} (list buffer : List X) (i : ℕ) (x : X) → length list ≡ i → HoldsFront list buffer → length buffer ≤ i
    → HoldsFront (list ++ x ∷ []) (set buffer i x)
push_past list buffer i x at front h =
    subst (λ l. HoldsFront (list ++ x ∷ []) l) (sym (set_past buffer i x h)) (front_full list (x ∷ []) buffer (omega (arith, at, h)) front)

-- one more element
pub front_push : {X : Type 0} (list buffer : List X) (i : ℕ) (x : X) → length list ≡ i → HoldsFront list buffer
    → HoldsFront (list ++ x ∷ []) (set buffer i x)
front_push list buffer i x at front =
    elim (cases_lt i (length buffer)) [ inl h ↦ push_within list buffer i x at front h | inr h ↦ push_past list buffer i x at front h ]

-- one more element of a list that is put as something else
pub front_next : {X Y : Type 0} (f : X → Y) (xs : List X) (buffer : List Y) (i : ℕ) (x : X) → slice_get xs i ≡ Some x
    → HoldsFront (map f (take i xs)) buffer → HoldsFront (map f (take (i + 1) xs)) (set buffer i (f x))
front_next f xs buffer i x is front =
    let within = slice_get_within xs i x is in
    let more = map_more f xs i x within ∙ ap (λ y. map f (take i xs) ++ f y ∷ []) (get_or_from_slice_get xs i x x is) in
    let size : length (map f (take i xs)) ≡ i = length-map (take i xs) f ∙ length-take-le i xs (omega (arith, within)) in
    subst (λ l. HoldsFront l (set buffer i (f x))) (sym more) (front_push (map f (take i xs)) buffer i (f x) size front)

-- nothing is put
pub front_nil : {X : Type 0} (buffer : List X) → HoldsFront [] buffer
front_nil buffer = sym (take_all (length buffer) [] (omega arith))

-- the texts of a row after what comes before
pub four_texts : {X : Type 0} (b k d i t : List X) → b ++ k ++ d ++ i ++ t ≡ b ++ (k ++ d ++ i ++ t)
four_texts b k d i t = simp append_assoc

-- a write to the rest of a list
pub mid_to_end : {X : Type 0} (a : ℕ) (xs ys : List X) → put_mid a (length xs - a) xs ys ≡ take a xs ++ ys
mid_to_end a xs ys =
    ap (λ l. take a xs ++ (ys ++ l)) (drop_all (length xs - a) (drop a xs) (omega (arith, length-drop a xs)))
    ∙ ap (λ l. take a xs ++ l) (append-nil ys)

more_within : {X : Type 0} (before text old rest : List X) (from : ℕ) → from ≡ length before → length before < length old
    → HoldsFront before old → HoldsFront text rest → HoldsFront (before ++ text) (take from old ++ rest)
more_within before text old rest from at within front is =
    subst (λ n. HoldsFront (before ++ text) (take n old ++ rest)) (sym at) (front_more before text old rest within front is)

more_past : {X : Type 0} (before text old rest : List X) (from : ℕ) → from ≡ length old → length rest ≡ 0 → length old ≤ length before
    → HoldsFront before old → HoldsFront (before ++ text) (take from old ++ rest)
more_past before text old rest from at none past front =
    let same : take from old ++ rest ≡ old =
    ap (λ l. take from old ++ l) (nil_from_length rest none) ∙ append-nil (take from old) ∙ take_all from old (omega (arith, at)) in
    subst (λ l. HoldsFront (before ++ text) l) (sym same) (front_full before text old past front)

-- a text is put after what comes before, as far as there is room
pub front_put : {X : Type 0} (before text old rest : List X) (at from : ℕ) → at ≡ capped (length before) → from ≡ min at (length old)
    → length old < 2 ^ 64 → length rest ≡ length old - from → HoldsFront before old → HoldsFront text rest
    → HoldsFront (before ++ text) (put_mid from (length old - from) old rest)
front_put before text old rest at from is_at is_from short size front is =
    subst (λ l. HoldsFront (before ++ text) l) (sym (mid_to_end from old rest))
    (elim (cases_lt (length before) (length old)) [
      | inl h ↦ more_within before text old rest from (omega (arith, is_at, is_from, short, h)) h front is
      | inr h ↦ more_past before text old rest from (omega (arith, is_at, is_from, short, h)) (omega (arith, is_at, is_from, short, h, size)) h front
    ])

rest_within : {X : Type 0} (before text old rest : List X) (from : ℕ) → from ≡ length before → length before < length old
    → drop (length text) rest ≡ drop (length text) (drop from old)
    → drop (length (before ++ text)) (take from old ++ rest) ≡ drop (length (before ++ text)) old
rest_within before text old rest from at within same =
    let size : length (take from old) ≡ from = length-take-le from old (omega (arith, at, within)) in
    let far : length (before ++ text) ≡ length (take from old) + length text = omega (arith, length-append before text, at, size) in
    let back : from + length text ≡ length (before ++ text) = omega (arith, length-append before text, at) in
    ap (λ n. drop n (take from old ++ rest)) far ∙ drop-append-add (take from old) rest (length text) ∙ same
    ∙ drop-drop (length text) from old ∙ ap (λ n. drop n old) back

rest_past : {X : Type 0} (before text old rest : List X) (from : ℕ) → from ≡ length old → length rest ≡ 0 → length old ≤ length before
    → drop (length (before ++ text)) (take from old ++ rest) ≡ drop (length (before ++ text)) old
rest_past before text old rest from at none past =
    let same : take from old ++ rest ≡ old =
    ap (λ l. take from old ++ l) (nil_from_length rest none) ∙ append-nil (take from old) ∙ take_all from old (omega (arith, at)) in
    ap (λ l. drop (length (before ++ text)) l) same

-- what follows in the buffer stays
pub rest_put : {X : Type 0} (before text old rest : List X) (at from : ℕ) → at ≡ capped (length before) → from ≡ min at (length old)
    → length old < 2 ^ 64 → length rest ≡ length old - from → drop (length text) rest ≡ drop (length text) (drop from old)
    → drop (length (before ++ text)) (put_mid from (length old - from) old rest) ≡ drop (length (before ++ text)) old
rest_put before text old rest at from is_at is_from short size same =
    ap (λ l. drop (length (before ++ text)) l) (mid_to_end from old rest)
    ∙ elim (cases_lt (length before) (length old)) [
      | inl h ↦ rest_within before text old rest from (omega (arith, is_at, is_from, short, h)) h same
      | inr h ↦ rest_past before text old rest from (omega (arith, is_at, is_from, short, h)) (omega (arith, is_at, is_from, short, h, size)) h
    ]

-- what stays from a place on stays from a later one on
pub drop_further : {X : Type 0} (m n : ℕ) (xs ys : List X) → m ≤ n → drop m xs ≡ drop m ys → drop n xs ≡ drop n ys
drop_further m n xs ys least same =
    let far : m + (n - m) ≡ n = omega (arith, least) in
    ap (λ k. drop k xs) (sym far) ∙ sym (drop-drop (n - m) m xs) ∙ ap (drop (n - m)) same ∙ drop-drop (n - m) m ys ∙ ap (λ k. drop k ys) far

-- what follows one text after another stays
pub rest_further : {X : Type 0} (before text old mid new : List X) → drop (length before) mid ≡ drop (length before) old
    → drop (length (before ++ text)) new ≡ drop (length (before ++ text)) mid
    → drop (length (before ++ text)) new ≡ drop (length (before ++ text)) old
rest_further before text old mid new first second =
    second ∙ drop_further (length before) (length (before ++ text)) mid old (omega (arith, length-append before text)) first

-- one more element leaves what follows it
pub rest_next : {X : Type 0} (old buffer : List X) (i : ℕ) (x : X) → drop i buffer ≡ drop i old
    → drop (i + 1) (set buffer i x) ≡ drop (i + 1) old
rest_next old buffer i x same =
    drop-set-lt (i + 1) buffer i x (omega arith) ∙ drop_further i (i + 1) buffer old (omega arith) same

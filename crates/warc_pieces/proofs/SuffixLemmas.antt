-- The fields of the lines after a line: they are the last ones of all.
use Rattle.std.proofs.Common.{◌≡◌, ℕ, ◌+◌, ◌<◌, Bool, true, false, not, ◌&&◌, List, [], ◌∷◌, ◌++◌, length, append_assoc, Option, Some, None, Result, Ok, Err, refl, sym, ap, ◌∙◌, arith, inl, inr, ◌⊎◌, ⊎_elim}
use Rattle.warc_field.specs.Area.{Pair, SpellsFields, area_of, field_of, field_then, fields_of, with_front}
use Rattle.warc_field.specs.Lines.{begins_blank, in_front, is_crlf, lines}
use Rattle.warc_field.specs.Text.{is_blank}
use Rattle.warc_field.proofs.LineLemmas.{ends, lines-cons, lines-ends, lines-more, lines-nil, lines-one, true_or_false, and_false_left}
use Rattle.warc_field.proofs.SpellLemmas.{spells-begin, spells-reads}

and_false : (v : Bool) → (v && false) ≡ false
and_false true = refl
and_false false = refl

-- a CRLF is no blank
blank_after : (bs y : List ℕ) → begins_blank (bs ++ 13 ∷ 10 ∷ y) ≡ begins_blank bs
unfolding is_blank
blank_after [] y = refl
blank_after (b ∷ bs) y = refl

in_front_more : (b : ℕ) (ls ms : List (List ℕ)) (p : List ℕ) (ps : List (List ℕ)) → ls ≡ p ∷ ps → in_front b (ls ++ ms) ≡ in_front b ls ++ ms
in_front_more b ls ms p ps is = ap (λ l. in_front b (l ++ ms)) is ∙ sym (ap (λ l. in_front b l ++ ms) is)

-- the lines of two texts with a CRLF between them are those of both
lines_joined : (x y : List ℕ) → begins_blank y ≡ false → lines (x ++ 13 ∷ 10 ∷ y) ≡ lines x ++ lines y
lines_joined [] y h = lines-ends 13 10 y (rw h refl) ∙ sym (ap (λ l. l ++ lines y) lines-nil)
lines_joined (b ∷ []) y h =
    lines-more b 13 (10 ∷ y) (and_false_left _ _ (and_false _)) ∙ ap (in_front b) (lines-ends 13 10 y (rw h refl)) ∙ sym (ap (λ l. l ++ lines y) (lines-one b))
lines_joined (b ∷ c ∷ bs) y h =
    let same : ends b c (bs ++ 13 ∷ 10 ∷ y) ≡ ends b c bs = ap (λ v. is_crlf b c && not v) (blank_after bs y) in
    let some = lines-cons (c ∷ bs) in
    ⊎_elim
    (λ is. lines-ends b c (bs ++ 13 ∷ 10 ∷ y) (same ∙ is) ∙ ap (λ l. [] ∷ l) (lines_joined bs y h) ∙ sym (ap (λ l. l ++ lines y) (lines-ends b c bs is)))
    (λ no.
    lines-more b c (bs ++ 13 ∷ 10 ∷ y) (same ∙ no) ∙ ap (in_front b) (lines_joined (c ∷ bs) y h)
    ∙ in_front_more b (lines (c ∷ bs)) (lines y) some.0 some.1 some.2 ∙ sym (ap (λ l. l ++ lines y) (lines-more b c bs no)))
    (true_or_false (ends b c bs))

-- how many bytes lines are, each with its CRLF
abbrev bytes_in : List (List ℕ) → ℕ
bytes_in [] = 0
bytes_in (l ∷ ls) = length l + 2 + bytes_in ls

bytes_in_front : (b : ℕ) (ls : List (List ℕ)) (p : List ℕ) (ps : List (List ℕ)) → ls ≡ p ∷ ps → bytes_in (in_front b ls) ≡ 1 + bytes_in ls
bytes_in_front b [] p ps is = absurd cc
bytes_in_front b (l ∷ ls) p ps is = omega arith

-- ap (λ l. bytes_in (in_front b l)) is ∙ omega arith ∙ sym (ap (λ l. 1 + bytes_in l) is)

bytes_in_lines : (x : List ℕ) → bytes_in (lines x) ≡ length x + 2
bytes_in_lines [] = ap bytes_in lines-nil ∙ omega arith
bytes_in_lines (b ∷ []) = ap bytes_in (lines-one b) ∙ omega arith
bytes_in_lines (b ∷ c ∷ bs) =
    let some = lines-cons (c ∷ bs) in
    let deeper : bytes_in (lines bs) ≡ length bs + 2 = bytes_in_lines bs in
    let next : bytes_in (lines (c ∷ bs)) ≡ length bs + 3 = bytes_in_lines (c ∷ bs) ∙ omega arith in
    ⊎_elim
    (λ is. ap bytes_in (lines-ends b c bs is) ∙ omega (arith, deeper))
    (λ no. ap bytes_in (lines-more b c bs no) ∙ bytes_in_front b (lines (c ∷ bs)) some.0 some.1 some.2 ∙ omega (arith, next))
    (true_or_false (ends b c bs))

line_then : (at : ℕ) (l m : List ℕ) (ms : List (List ℕ)) → fields_of at (l ∷ m ∷ ms) ≡ field_then at (field_of l) (fields_of (at + length l + 2) (m ∷ ms))
unfolding fields_of
line_then at [] m ms = refl
line_then at (b ∷ bs) m ms = refl

with_none : (r : Result (List Pair) ℕ) → with_front [] r ≡ r
with_none (Ok fields) = refl
with_none (Err at) = refl

with_more : (a b : List Pair) (r : Result (List Pair) ℕ) → with_front a (with_front b r) ≡ with_front (a ++ b) r
with_more a b (Ok fields) = ap Ok (sym (append_assoc a b fields))
with_more a b (Err at) = refl

-- the fields of lines and more lines: one of the first lines is no field, or they are fields that come before those of
-- the others
abbrev Joins : ℕ → List (List ℕ) → List (List ℕ) → Type 0
Joins at ls ms =
    ((k : ℕ) × (fields_of at (ls ++ ms) ≡ Err k) × (k < at + bytes_in ls))
    ⊎ ((front : List Pair) × (fields_of at (ls ++ ms) ≡ with_front front (fields_of (at + bytes_in ls) ms)))

joins_none : (at : ℕ) (ms : List (List ℕ)) → Joins at [] ms
joins_none at ms =
    let here : fields_of at ms ≡ fields_of (at + 0) ms = ap (λ k. fields_of k ms) (omega arith) in
    inr ([], here ∙ sym (with_none (fields_of (at + 0) ms)))

joins_line : (at : ℕ) (l : List ℕ) (ls ms : List (List ℕ)) (o : Option Pair) → fields_of at (l ∷ (ls ++ ms)) ≡ field_then at o (fields_of (at + length l + 2) (ls ++ ms)) → Joins (at + length l + 2) ls ms → Joins at (l ∷ ls) ms
joins_line at l ls ms None is deeper = inl (at, is, omega arith)
joins_line at l ls ms (Some field) is (inl bad) =
    inl (bad.0, is ∙ ap (with_front (field ∷ [])) bad.1, omega (arith, bad.2))
joins_line at l ls ms (Some field) is (inr good) =
    let same : at + length l + 2 + bytes_in ls ≡ at + bytes_in (l ∷ ls) = omega arith in
    inr (
      field ∷ good.0,
      is ∙ ap (with_front (field ∷ [])) good.1 ∙ with_more (field ∷ []) good.0 (fields_of (at + length l + 2 + bytes_in ls) ms)
          ∙ ap (λ k. with_front (field ∷ good.0) (fields_of k ms)) same,
    )

joins_by : (at : ℕ) (l n : List ℕ) (rest : List (List ℕ)) (ls : List (List ℕ)) (ms : List (List ℕ)) → ls ++ ms ≡ n ∷ rest → Joins (at + length l + 2) ls ms → Joins at (l ∷ ls) ms
joins_by at l n rest ls ms is deeper =
    let first : fields_of at (l ∷ (ls ++ ms)) ≡ field_then at (field_of l) (fields_of (at + length l + 2) (ls ++ ms)) =
    ap (λ q. fields_of at (l ∷ q)) is ∙ line_then at l n rest ∙ sym (ap (λ q. field_then at (field_of l) (fields_of (at + length l + 2) q)) is) in
    joins_line at l ls ms (field_of l) first deeper

joins : (at : ℕ) (ls : List (List ℕ)) (m : List ℕ) (ms : List (List ℕ)) → Joins at ls (m ∷ ms)
joins at [] m ms = joins_none at (m ∷ ms)
joins at (l ∷ []) m ms = joins_by at l m ms [] (m ∷ ms) refl (joins (at + length l + 2) [] m ms)
joins at (l ∷ n ∷ ls) m ms = joins_by at l n (ls ++ m ∷ ms) (n ∷ ls) (m ∷ ms) refl (joins (at + length l + 2) (n ∷ ls) m ms)

last_by : (x : List ℕ) (fs gs : List Pair) (m : List ℕ) (ms : List (List ℕ)) → fields_of 0 (lines x ++ m ∷ ms) ≡ Ok fs → fields_of (0 + bytes_in (lines x)) (m ∷ ms) ≡ Ok gs → Joins 0 (lines x) (m ∷ ms) → (front : List Pair) × (fs ≡ front ++ gs)
last_by x fs gs m ms read rest (inl bad) = let no : ◌≡◌ {A = Result (List Pair) ℕ} (Ok fs) (Err bad.0) = sym read ∙ bad.1 in absurd cc
last_by x fs gs m ms read rest (inr good) =
    let same : ◌≡◌ {A = Result (List Pair) ℕ} (Ok fs) (Ok (good.0 ++ gs)) = sym read ∙ good.1 ∙ ap (with_front good.0) rest in
    (good.0, cc)

bad_by : (x : List ℕ) (gs : List Pair) (at : ℕ) (m : List ℕ) (ms : List (List ℕ)) → fields_of 0 (lines x ++ m ∷ ms) ≡ Err at → fields_of (0 + bytes_in (lines x)) (m ∷ ms) ≡ Ok gs → bytes_in (lines x) ≡ length x + 2 → Joins 0 (lines x) (m ∷ ms) → at < length x + 2
bad_by x gs at m ms read rest size (inl bad) =
    let same : ◌≡◌ {A = Result (List Pair) ℕ} (Err at) (Err bad.0) = sym read ∙ bad.1 in
    let here : at ≡ bad.0 = cc in
    omega (arith, here, size, bad.2)
bad_by x gs at m ms read rest size (inr good) =
    let no : ◌≡◌ {A = Result (List Pair) ℕ} (Err at) (Ok (good.0 ++ gs)) = sym read ∙ good.1 ∙ ap (with_front good.0) rest in
    absurd cc

-- where the lines of a text go on after a CRLF, the fields of the lines there are the last ones of all
pub last_fields : (x y : List ℕ) (fs gs : List Pair) → SpellsFields gs y → area_of (x ++ 13 ∷ 10 ∷ y) ≡ Ok fs → (front : List Pair) × (fs ≡ front ++ gs)
last_fields x y fs gs spelled read =
    let both = lines_joined x y (spells-begin gs y spelled) in
    let some = lines-cons y in
    let there = ap (fields_of 0) (both ∙ ap (λ l. lines x ++ l) some.2) in
    let rest : fields_of (0 + bytes_in (lines x)) (some.0 ∷ some.1) ≡ Ok gs =
    ap (fields_of (0 + bytes_in (lines x))) (sym some.2) ∙ spells-reads gs y (0 + bytes_in (lines x)) spelled in
    last_by x fs gs some.0 some.1 (sym there ∙ read) rest (joins 0 (lines x) some.0 some.1)

-- and each first bad line is before them
pub bad_before : (x y : List ℕ) (gs : List Pair) (at : ℕ) → SpellsFields gs y → area_of (x ++ 13 ∷ 10 ∷ y) ≡ Err at → at < length x + 2
bad_before x y gs at spelled read =
    let both = lines_joined x y (spells-begin gs y spelled) in
    let some = lines-cons y in
    let there = ap (fields_of 0) (both ∙ ap (λ l. lines x ++ l) some.2) in
    let rest : fields_of (0 + bytes_in (lines x)) (some.0 ∷ some.1) ≡ Ok gs =
    ap (fields_of (0 + bytes_in (lines x))) (sym some.2) ∙ spells-reads gs y (0 + bytes_in (lines x)) spelled in
    bad_by x gs at some.0 some.1 (sym there ∙ read) rest (bytes_in_lines x) (joins 0 (lines x) some.0 some.1)

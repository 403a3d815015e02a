-- What the rows of a head's refusals test.
use Rattle.std.proofs.Common.{◌≡◌, ℕ, ◌+◌, ◌<◌, ◌≤◌, true, false, true≢false, not, ◌==◌, cond, nat_le, List, [], ◌∷◌, ◌++◌, Option, Some, None, Result, Ok, Err, length, length-take, take, drop, get_or, min, refl, sym, ap, subst, ◌∙◌, arith, ⊎_elim}
use Rattle.std.specs.Prelude.{option_map, option_and_then}
use Rattle.std.specs.List.{list_all}
use Rattle.std.proofs.lemmas.List.{take_all, take-append-drop, get_or-take}
use Rattle.std.proofs.lemmas.List.Folds.{list_all_at}
use Rattle.std.proofs.lemmas.Slice.Eq.{bytes_eq-Decides}
use Rattle.std.proofs.lemmas.Bool.{cases_lt, leb-true}
use Rattle.warc_frame.specs.declared.version.Version.{Version}
use Rattle.warc_frame.specs.declared.version.Version.TheVariants.{V1_0, V1_1}
use Rattle.warc_frame.specs.declared.fault.FaultKind.{FaultKind}
use Rattle.warc_frame.specs.declared.fault.FaultKind.TheVariants.{Length}
use Rattle.warc_frame.specs.Record.{or_length, max_head, max_block}
use Rattle.warc_frame.specs.VersionLine.{version_line}
use Rattle.warc_frame.specs.Reading.{begins, version_of, empty_line, head_front, head_len}
use Rattle.warc_frame.proofs.EmptyLineLemmas.{true_or_false, empty-bytes, empty-len}

-- the part that a search goes through
take_least : (n : ℕ) (t : List ℕ) → take (min (length t) n) t ≡ take n t
take_least n t = ⊎_elim
    (λ l. let e : min (length t) n ≡ length t = omega arith in ap (λ k. take k t) e ∙ take_all (length t) t (omega arith) ∙ sym (take_all n t (omega arith)))
    (λ l. let e : min (length t) n ≡ n = omega arith in ap (λ k. take k t) e)
    (cases_lt (length t) n)

pub take_shorter : (m : ℕ) (t : List ℕ) (a : ℕ) → a ≡ min (length t) m → take a t ≡ take m t
take_shorter m t a e = ap (λ k. take k t) e ∙ take_least m t

-- a text that begins as another and is long enough has it at its front
pub begins-front : (t wanted : List ℕ) → begins t wanted ≡ true → length wanted ≤ length t → t ≡ wanted ++ drop (length wanted) t
begins-front t wanted h long =
    let n = length wanted in
    let size : length (take n t) ≡ n = omega (arith, length-take n t) in
    let same : take n t ≡ wanted = (bytes_eq-Decides _ _).0 h ∙ ap (λ k. take k wanted) size ∙ take_all n wanted (omega arith) in
    sym (take-append-drop n t) ∙ ap (λ xs. xs ++ drop n t) same

-- a text begins as the line of its version
pub version-begins : (t : List ℕ) (v : Version) → version_of t ≡ Some v → begins t (version_line v) ≡ true
unfolding version_of
version-begins t v h = ⊎_elim
    (λ (one : begins t (version_line V1_1) ≡ true). let e : ◌≡◌ {A = Option Version} (Some V1_1) (Some v) = rw one at h in let same : V1_1 ≡ v = cc in subst (λ w. begins t (version_line w) ≡ true) same one)
    (λ (no : begins t (version_line V1_1) ≡ false). ⊎_elim
    (λ (two : begins t (version_line V1_0) ≡ true). let e : ◌≡◌ {A = Option Version} (Some V1_0) (Some v) = rw (no, two) at h in let same : V1_0 ≡ v = cc in subst (λ w. begins t (version_line w) ≡ true) same two)
    (λ (none : begins t (version_line V1_0) ≡ false). let e : ◌≡◌ {A = Option Version} None (Some v) = rw (no, none) at h in cc)
    (true_or_false (begins t (version_line V1_0))))
    (true_or_false (begins t (version_line V1_1)))

-- a byte of a text that begins as another, as far as both go
pub begins-byte : (t wanted : List ℕ) (k : ℕ) → begins t wanted ≡ true → k < length t → k < length wanted → get_or t k 0 ≡ get_or wanted k 0
begins-byte [] wanted k h l m = absurd (omega arith)
begins-byte (b ∷ bs) [] k h l m = absurd (omega arith)
begins-byte (b ∷ bs) (c ∷ cs) k h l m =
    let n = length (c ∷ cs) in
    let same : take n (b ∷ bs) ≡ take (length (take n (b ∷ bs))) (c ∷ cs) = (bytes_eq-Decides _ _).0 h in
    let fits : k < length (take n (b ∷ bs)) = omega (arith, length-take n (b ∷ bs)) in
    sym (get_or-take n (b ∷ bs) k 0 m) ∙ ap (λ xs. get_or xs k 0) same ∙ get_or-take (length (take n (b ∷ bs))) (c ∷ cs) k 0 fits

-- a text of bytes that are all no CR has none at any place
no_cr_among : (xs : List ℕ) (k : ℕ) → list_all (λ b. not (b == 13)) xs ≡ true → k < length xs → get_or xs k 0 ≡ 13 → ⊥
no_cr_among xs k all l is =
    let none : list_all (λ b. not (b == 13)) xs ≡ false = list_all_at (λ b. not (b == 13)) xs k 0 l (ap (λ b. not (b == 13)) is) in
    true≢false (sym all ∙ none)

no_cr_in_line : (v : Version) (k : ℕ) → k < 8 → get_or (version_line v) k 0 ≡ 13 → ⊥
no_cr_in_line V1_0 k l is = no_cr_among (take 8 (version_line V1_0)) k refl l (get_or-take 8 (version_line V1_0) k 0 l ∙ is)
no_cr_in_line V1_1 k l is = no_cr_among (take 8 (version_line V1_1)) k refl l (get_or-take 8 (version_line V1_1) k 0 l ∙ is)

some_four : (o : Option ℕ) (n : ℕ) → option_map (λ place. place + 4) o ≡ Some n → (p : ℕ) × (o ≡ Some p) × (p + 4 ≡ n)
some_four None n h = absurd cc
some_four (Some p) n h = (p, refl, cc)

-- the place of the first empty line of a front, however long that is
place_of : (m : ℕ) (t : List ℕ) (n : ℕ) → option_map (λ place. place + 4) (empty_line (take m t)) ≡ Some n →
    (p : ℕ) × (empty_line (take m t) ≡ Some p) × (p + 4 ≡ n) × (n ≤ length t) × (n ≤ m)
place_of m t n h =
    let found = some_four (empty_line (take m t)) n h in
    let long = empty-len (take m t) found.0 found.1 in
    (found.0, found.1, found.2, omega (arith, long, found.2, length-take m t), omega (arith, long, found.2, length-take m t))

-- the place of the empty line that ends a head
pub head-place : (t : List ℕ) (n : ℕ) → head_len t ≡ Some n → (p : ℕ) × (empty_line (head_front t) ≡ Some p) × (p + 4 ≡ n) × (n ≤ length t) × (n ≤ max_head)
unfolding head_len head_front
head-place t n h = place_of max_head t n h

pub head_within : (t : List ℕ) (n : ℕ) → head_len t ≡ Some n → n ≤ length t
head_within t n h = (head-place t n h).3

line_short : (v : Version) (k : ℕ) → k < 8 → k < length (version_line v)
line_short V1_0 k l = omega arith
line_short V1_1 k l = omega arith

-- the byte where the front of a text, however long, has an empty line
cr_of_front : (m : ℕ) (t : List ℕ) (p : ℕ) → empty_line (take m t) ≡ Some p → get_or t p 0 ≡ 13
cr_of_front m t p h =
    let long = empty-len (take m t) p h in
    let inside : p < m = omega (arith, long, length-take m t) in
    sym (get_or-take m t p 0 inside) ∙ (empty-bytes (take m t) p h).0

no_cr_so_early : (t : List ℕ) (v : Version) (p : ℕ) → version_of t ≡ Some v → get_or t p 0 ≡ 13 → p < length t → p < 8 → ⊥
no_cr_so_early t v p h cr inside early =
    no_cr_in_line v p early (sym (begins-byte t (version_line v) p (version-begins t v h) inside (line_short v p early)) ∙ cr)

-- a line end of a text with a version isn't before its version line's end
room_at : (t : List ℕ) (v : Version) (n p : ℕ) → version_of t ≡ Some v → get_or t p 0 ≡ 13 → p + 4 ≡ n → n ≤ length t → 12 ≤ n
room_at t v n p h cr e inside = ⊎_elim
    (λ early. absurd (no_cr_so_early t v p h cr (omega (arith, e, inside)) early))
    (λ late. omega (arith, late, e))
    (cases_lt p 8)

-- a head holds its version line and the empty line after it
pub head_room : (t : List ℕ) (v : Version) (n : ℕ) → version_of t ≡ Some v → head_len t ≡ Some n → 12 ≤ n
unfolding head_front
head_room t v n h e =
    let found = head-place t n e in
    room_at t v n found.0 h (cr_of_front max_head t found.0 found.1) found.2 found.3

number_fits : (o : Option ℕ) (n : ℕ) → or_length (option_and_then (λ k. cond (nat_le k max_block) (Some k) None) o) ≡ Ok n → n ≤ max_block
number_fits None n h = absurd cc
number_fits (Some k) n h = ⊎_elim
    (λ small. let e : ◌≡◌ {A = Result ℕ FaultKind} (Ok k) (Ok n) = rw small at h in let same : k ≡ n = cc in omega (arith, same, leb-true _ _ small))
    (λ large. let e : ◌≡◌ {A = Result ℕ FaultKind} (Err Length) (Ok n) = rw large at h in absurd cc)
    (true_or_false (nat_le k max_block))

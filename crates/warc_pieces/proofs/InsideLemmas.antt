-- Records that begin within a head: their fields are the last ones of that head.
use Rattle.std.proofs.Common.{◌≡◌, ℕ, zero, suc, ◌+◌, ◌-◌, ◌<◌, ◌≤◌, Bool, true, false, not, ◌==◌, List, [], ◌∷◌, ◌++◌, length, take, drop, get_or, append_assoc, length-append, Option, Some, refl, sym, ap, ◌∙◌, arith, inl, inr, ◌⊎◌, ⊎_elim}
use Rattle.std.specs.Prelude.{option_map, slice_range}
use Rattle.std.specs.List.{list_all}
use Rattle.std.proofs.Math.Seq.{take-append_seam}
use Rattle.std.proofs.lemmas.Bool.{and_parts, cases_lt}
use Rattle.std.proofs.lemmas.List.{get_or-drop, drop-drop, length-drop, length-take-le, take-append-drop}
use Rattle.warc_field.specs.Lines.{empty_at}
use Rattle.warc_frame.specs.Reading.{empty_line, head_front, head_len, version_of}
use Rattle.warc_frame.specs.Record.{Record, head_text, max_head}
use Rattle.warc_frame.specs.Spelling.{Spells}
use Rattle.warc_frame.specs.VersionLine.{version_line}
use Rattle.warc_frame.specs.declared.version.Version.{Version}
use Rattle.warc_frame.specs.declared.version.Version.TheVariants.{V1_0, V1_1}
use Rattle.warc_frame.proofs.EmptyLineLemmas.{crlf_bytes, empty_line-at, empty_line-more, suc_some}
use Rattle.warc_frame.proofs.HeadLemmas.{begins-byte, head-place, head_room, head_within, version-begins}
use Rattle.warc_frame.proofs.SpellLemmas.{head-read}
use Rattle.warc_frame.proofs.CanonicalLemmas.{version_size}

either : (v : Bool) → (v ≡ true) ⊎ (v ≡ false)
either true = inl refl
either false = inr refl

-- the first empty line after a place, where it is after that place
pub empty_line_after : (k p : ℕ) (t : List ℕ) → empty_line t ≡ Some p → k ≤ p → empty_line (drop k t) ≡ Some (p - k)
unfolding empty_line
empty_line_after zero p t is below = is ∙ ap Some (let e : p ≡ p - 0 = omega arith in e)
empty_line_after (suc k) p [] is below = absurd cc
empty_line_after (suc k) p (b ∷ bs) is below = ⊎_elim
    (λ (here : empty_at (b ∷ bs) 0 ≡ true). let e : ◌≡◌ {A = Option ℕ} (Some 0) (Some p) = rw here at is in let z : 0 ≡ p = cc in absurd (omega (arith, z, below)))
    (λ (other : empty_at (b ∷ bs) 0 ≡ false).
    let e : option_map suc (empty_line bs) ≡ Some p = rw other at is in
    let next = suc_some (empty_line bs) p e in
    empty_line_after k next.0 bs next.1 (omega (arith, next.2, below)) ∙ ap Some (let e2 : next.0 - k ≡ p - suc k = omega (arith, next.2) in e2))
    (either (empty_at (b ∷ bs) 0))

-- a place of a head's text
pub head_empty : (t : List ℕ) (len : ℕ) → head_len t ≡ Some len → (p : ℕ) × (empty_line t ≡ Some p) × (p + 4 ≡ len)
unfolding head_front
head_empty t len is =
    let place = head-place t len is in
    (place.0, ap empty_line (sym (take-append-drop max_head t)) ∙ empty_line-more (take max_head t) (drop max_head t) place.0 place.1, place.2)

no_start : (xs : List ℕ) (k : ℕ) → list_all (λ b. not (b == 87)) xs ≡ true → k < length xs → get_or xs k 0 ≡ 87 → ⊥
no_start [] k all below is = absurd (omega arith)
no_start (x ∷ xs) zero all below is =
    let e : x ≡ 87 = is in
    let other : not (x == 87) ≡ true = (and_parts (not (x == 87)) (list_all (λ b. not (b == 87)) xs) all).0 in
    let no : false ≡ true = rw e at other in absurd cc
no_start (x ∷ xs) (suc k) all below is = no_start xs k (and_parts (not (x == 87)) (list_all (λ b. not (b == 87)) xs) all).1 (omega (arith, below)) is

-- no version line begins within a version line
past_line : (v : Version) (k : ℕ) → 0 < k → k < 10 → get_or (version_line v) k 0 ≡ 87 → ⊥
past_line v zero some below is = absurd (omega (arith, some))
past_line V1_0 (suc k) some below is = no_start (drop 1 (version_line V1_0)) k refl (omega (arith, below)) is
past_line V1_1 (suc k) some below is = no_start (drop 1 (version_line V1_1)) k refl (omega (arith, below)) is

starts : (v : Version) (more : List ℕ) → get_or (version_line v ++ more) 0 0 ≡ 87
starts V1_0 more = refl
starts V1_1 more = refl

line_byte : (t : List ℕ) (v : Version) (k : ℕ) → version_of t ≡ Some v → 10 ≤ length t → k < 10 → get_or (version_line v) k 0 ≡ get_or t (k + 0) 0
line_byte t v k is long below =
    let size = version_size v in
    sym (begins-byte t (version_line v) k (version-begins t v is) (omega (arith, long, below)) (omega (arith, size, below))) ∙ ap (λ n. get_or t n 0) (let e : k ≡ k + 0 = omega arith in e)

-- a version line that begins within a text after its version line begins after that line
pub after_line : (t : List ℕ) (v w : Version) (k : ℕ) (more : List ℕ) → version_of t ≡ Some v → 10 ≤ length t → 0 < k → drop k t ≡ version_line w ++ more → 10 ≤ k
after_line t v w k more is long some begins = ⊎_elim
    (λ below. absurd (past_line v k some below (line_byte t v k is long below ∙ (sym (get_or-drop k t 0 0) ∙ ap (λ xs. get_or xs 0 0) begins ∙ starts w more))))
    (λ above. above)
    (cases_lt k 10)

-- A record that begins within a head, k bytes after its front: the lines of its head are the last ones of that head.
pub record IsInside (t : List ℕ) (len k : ℕ) (area : List ℕ) : Type 0 where
  pub before : List ℕ
  pub lines : slice_range t 10 (len - 2) ≡ before ++ 13 ∷ 10 ∷ area
  pub place : length before + 2 ≡ k
  pub size : len ≡ k + length area + 12

-- the first bytes of a version line
pub line_front : Version → List ℕ
line_front v = take 8 (version_line v)

line_parts : (v : Version) (more : List ℕ) → version_line v ++ more ≡ line_front v ++ 13 ∷ 10 ∷ more
unfolding line_front
line_parts V1_0 more = refl
line_parts V1_1 more = refl

front_size : (v : Version) → length (line_front v) ≡ 8
unfolding line_front
front_size V1_0 = refl
front_size V1_1 = refl

-- the text after a head's place that begins a record, in parts
text_parts : (r : Record) (text more : List ℕ) (spelled : Spells r text) → text ++ more ≡ version_line r.version ++ (spelled.area ++ (13 ∷ 10 ∷ (r.block ++ 13 ∷ 10 ∷ 13 ∷ 10 ∷ more)))
text_parts r text more spelled = ap (λ x. x ++ more) spelled.text_is ∙ simp append_assoc

-- the lines between the version line of a head and a place where a record begins
pub inside_lines : (t : List ℕ) (k n : ℕ) (w : Version) (area more : List ℕ) → 10 ≤ k → k ≤ length t → drop k t ≡ version_line w ++ (area ++ more) → n ≡ k + length area
    → take n (drop 10 t) ≡ (take (k - 10) (drop 10 t) ++ line_front w) ++ 13 ∷ 10 ∷ area
inside_lines t k n w area more far within begins size =
    let pre = take (k - 10) (drop 10 t) in
    let back : drop (k - 10) (drop 10 t) ≡ line_front w ++ 13 ∷ 10 ∷ (area ++ more) =
    drop-drop (k - 10) 10 t ∙ ap (λ m. drop m t) (let e : 10 + (k - 10) ≡ k = omega (arith, far) in e) ∙ begins ∙ line_parts w (area ++ more) in
    let whole : drop 10 t ≡ ((pre ++ line_front w) ++ 13 ∷ 10 ∷ area) ++ more =
    sym (take-append-drop (k - 10) (drop 10 t)) ∙ ap (λ xs. pre ++ xs) back ∙ simp append_assoc in
    let long : length pre ≡ k - 10 = length-take-le (k - 10) (drop 10 t) (omega (arith, within, length-drop 10 t)) in
    let all : length ((pre ++ line_front w) ++ 13 ∷ 10 ∷ area) ≡ n =
    length-append (pre ++ line_front w) (13 ∷ 10 ∷ area) ∙ ap (λ m. m + length (13 ∷ 10 ∷ area)) (length-append pre (line_front w))
    ∙ omega (arith, long, front_size w, size, far) in
    ap (λ m. take m (drop 10 t)) (sym all) ∙ ap (take (length ((pre ++ line_front w) ++ 13 ∷ 10 ∷ area))) whole
    ∙ take-append_seam ((pre ++ line_front w) ++ 13 ∷ 10 ∷ area) more

some_line : (w : Version) (more : List ℕ) → get_or (version_line w ++ more) 0 0 ≡ 13 ⊎ get_or (version_line w ++ more) 0 0 ≡ 10 → ⊥
some_line w more (inl is) = let no : 87 ≡ 13 = sym (starts w more) ∙ is in absurd (omega (arith, no))
some_line w more (inr is) = let no : 87 ≡ 10 = sym (starts w more) ∙ is in absurd (omega (arith, no))

-- no record begins in an empty line
not_in_end : (t : List ℕ) (p k : ℕ) (w : Version) (more : List ℕ) → empty_line t ≡ Some p → k < p + 4 → drop k t ≡ version_line w ++ more → k ≤ p
not_in_end t p k w more is below begins =
    let at = empty_line-at t p is in
    let here = crlf_bytes (get_or t p 0) (get_or t (suc p) 0) (and_parts _ _ at).0 in
    let next : (get_or t (suc (suc p)) 0 ≡ 13) × (get_or t (suc (suc (suc p))) 0 ≡ 10) = crlf_bytes (get_or t (suc (suc p)) 0) (get_or t (suc (suc (suc p))) 0) (and_parts _ _ at).1 in
    let first : get_or t (k + 0) 0 ≡ get_or (version_line w ++ more) 0 0 = sym (get_or-drop k t 0 0) ∙ ap (λ xs. get_or xs 0 0) begins in
    let byte : ℕ → ℕ = λ n. get_or t n 0 in
    ⊎_elim
    (λ (l : k < p + 1). omega (arith, l))
    (λ (a : p + 1 ≤ k). ⊎_elim
    (λ (l : k < p + 2). absurd (some_line w more (inr (sym first ∙ ap byte (let e : k + 0 ≡ suc p = omega (arith, a, l) in e) ∙ here.1))))
    (λ (b : p + 2 ≤ k). ⊎_elim
    (λ (l : k < p + 3). absurd (some_line w more (inl (sym first ∙ ap byte (let e : k + 0 ≡ suc (suc p) = omega (arith, b, l) in e) ∙ next.0))))
    (λ (c : p + 3 ≤ k). absurd (some_line w more (inr (sym first ∙ ap byte (let e : k + 0 ≡ suc (suc (suc p)) = omega (arith, c, below) in e) ∙ next.1))))
    (cases_lt k (p + 3)))
    (cases_lt k (p + 2)))
    (cases_lt k (p + 1))

-- a record that begins within a head
pub inside : (t : List ℕ) (v : Version) (len k : ℕ) (r : Record) (text more : List ℕ) → version_of t ≡ Some v → head_len t ≡ Some len → 0 < k → k < len → drop k t ≡ text ++ more → (spelled : Spells r text) → IsInside t len k spelled.area
inside t v len k r text more version ends some below whole spelled =
    let area = spelled.area in
    let rest = 13 ∷ 10 ∷ (r.block ++ 13 ∷ 10 ∷ 13 ∷ 10 ∷ more) in
    let begins : drop k t ≡ version_line r.version ++ (area ++ rest) = whole ∙ text_parts r text more spelled in
    let one = head_empty t len ends in
    let room = head_room t v len version ends in
    let long = head_within t len ends in
    let low = not_in_end t one.0 k r.version (area ++ rest) one.1 (omega (arith, below, one.2)) begins in
    let far = after_line t v r.version k (area ++ rest) version (omega (arith, room, long)) some begins in
    let head : drop k t ≡ head_text r.version area ++ (r.block ++ 13 ∷ 10 ∷ 13 ∷ 10 ∷ more) = begins ∙ simp append_assoc in
    let own : head_len (drop k t) ≡ Some (length area + 12) =
    ap head_len head ∙ head-read r.version r.fields area (r.block ++ 13 ∷ 10 ∷ 13 ∷ 10 ∷ more) spelled.fields spelled.head in
    let two = head_empty (drop k t) (length area + 12) own in
    let same : ◌≡◌ {A = Option ℕ} (Some two.0) (Some (one.0 - k)) = sym two.1 ∙ empty_line_after k one.0 t one.1 low in
    let place : two.0 ≡ one.0 - k = cc in
    let size : len ≡ k + length area + 12 = omega (arith, place, one.2, two.2, low) in
    let cut : len - 2 - 10 ≡ k + length area = omega (arith, size) in
    record {
      before = take (k - 10) (drop 10 t) ++ line_front r.version;
      lines = ap (λ n. take n (drop 10 t)) cut ∙ inside_lines t k (k + length area) r.version area rest far (omega (arith, below, long)) begins refl;
      place = omega (arith, length-append (take (k - 10) (drop 10 t)) (line_front r.version), front_size r.version, length-take-le (k - 10) (drop 10 t) (omega (arith, below, long, length-drop 10 t)), far);
      size = size;
    }

-- What is between the spaces and tabs at a text's ends is a value.
use Rattle.std.proofs.Common.{◌≡◌, ℕ, zero, suc, ◌-◌, ◌<◌, ◌≤◌, Bool, true, false, List, [], ◌∷◌, ◌++◌, length, length-drop, length-take, take, drop, get_or, refl, sym, ap, ◌∙◌, arith, ⊎_elim}
use Rattle.std.proofs.Math.Seq.{take-append_seam}
use Rattle.std.specs.Prelude.{reverse}
use Rattle.std.specs.List.{prefix_len, suffix_len, list_all}
use Rattle.std.proofs.lemmas.Bool.{cases_lt, and_parts, and_from}
use Rattle.std.proofs.lemmas.List.{get_or-reverse, length-reverse}
use Rattle.std.proofs.lemmas.List.Sums.{prefix_len_stops, suffix_len-le-length, suffix_len-take_no}
use Rattle.std.proofs.lemmas.Grind.{common_steps}
use Rattle.std.proofs.Common.{Some}
use Rattle.std.proofs.lemmas.Option.{cond_some}
use Rattle.std.proofs.Common.{◌+◌}
use Rattle.std.proofs.lemmas.Bool.{cases_eq, eqb-true, false≢true}
use Rattle.std.proofs.lemmas.List.{take-append-drop, get_or-drop}
use Rattle.std.proofs.lemmas.List.Folds.{list_all-append}
use Rattle.std.proofs.lemmas.List.Sums.{list_all-from_AllPass, prefix_len_passes}
use Rattle.warc_field.proofs.LineLemmas.{true_or_false, not_true, and_false_left, parts-nil, parts-one, parts-more, unfolded-none}
use Rattle.warc_field.specs.Lines.{unfolded, parts, in_front}
use Rattle.warc_field.specs.Area.{value_of, MeansValue}
use Rattle.warc_field.specs.Text.{is_blank, is_value_byte, trimmed, is_value}

all_take : (p : ℕ → Bool) (n : ℕ) (xs : List ℕ) → list_all p xs ≡ true → list_all p (take n xs) ≡ true
all_take p zero xs h = refl
all_take p (suc n) [] h = refl
all_take p (suc n) (x ∷ xs) h = let both = and_parts _ _ h in and_from _ _ both.0 (all_take p n xs both.1)

all_drop : (p : ℕ → Bool) (n : ℕ) (xs : List ℕ) → list_all p xs ≡ true → list_all p (drop n xs) ≡ true
all_drop p zero xs h = h
all_drop p (suc n) [] h = refl
all_drop p (suc n) (x ∷ xs) h = all_drop p n xs (and_parts _ _ h).1

no_blanks : (xs : List ℕ) → (0 < length xs → is_blank (get_or xs 0 0) ≡ false) → prefix_len is_blank xs ≡ 0
no_blanks [] h = refl
no_blanks (x ∷ xs) h = rw (h (omega arith))

get_or_take_drop : (m p : ℕ) (xs : List ℕ) → 0 < m → get_or (take m (drop p xs)) 0 0 ≡ get_or xs p 0
get_or_take_drop m p xs h = grind (arith, common_steps)

front_trimmed : (xs : List ℕ) (m : ℕ) → prefix_len is_blank (take m (drop (prefix_len is_blank xs) xs)) ≡ 0
front_trimmed xs m = no_blanks _ (λ some.
    let p = prefix_len is_blank xs in
    let l : p < length xs = omega (arith, some, length-take m (drop p xs), length-drop p xs) in
    let first : get_or (take m (drop p xs)) 0 0 ≡ get_or xs p 0 = get_or_take_drop m p xs (omega (arith, some, length-take m (drop p xs))) in
    ap is_blank first ∙ prefix_len_stops is_blank xs 0 l)

back_trimmed : (t : List ℕ) → suffix_len is_blank (take (length t - suffix_len is_blank t) t) ≡ 0
back_trimmed t =
    let s = suffix_len is_blank t in
    let r = length t - s in
    let fits = suffix_len-le-length is_blank t in
    ⊎_elim
    (λ none. ap (λ k. suffix_len is_blank (take k t)) (let e : r ≡ 0 = omega arith in e))
    (λ some.
    let turned : get_or (reverse t) s 0 ≡ get_or t (r - 1) 0 = get_or-reverse t s 0 (omega (arith, fits)) ∙ ap (λ k. get_or t k 0) (let e : length t - 1 - s ≡ r - 1 = omega arith in e) in
    let other : is_blank (get_or (reverse t) s 0) ≡ false = prefix_len_stops is_blank (reverse t) 0 (omega (arith, length-reverse t, fits)) in
    suffix_len-take_no is_blank t r 0 (omega arith) (omega arith) (ap is_blank (sym turned) ∙ other))
    (cases_lt r 1)

pub trimmed_is_value : (xs : List ℕ) → list_all is_value_byte xs ≡ true → is_value (trimmed xs) ≡ true
unfolding trimmed is_value
trimmed_is_value xs h =
    let t = drop (prefix_len is_blank xs) xs in
    let m = length t - suffix_len is_blank t in
    rw (all_take is_value_byte m t (all_drop is_value_byte (prefix_len is_blank xs) xs h), front_trimmed xs m, back_trimmed t) refl

-- Cutting spaces and tabs off hides no control character.
blank_value : (b : ℕ) → is_blank b ≡ true → is_value_byte b ≡ true
unfolding is_blank is_value_byte
blank_value b h = ⊎_elim
    (λ is. ap is_value_byte is)
    (λ other. let tab : b ≡ 9 = ⊎_elim (λ is. is) (λ neither. absurd (false≢true (sym (rw (not_true _ (λ e. other (eqb-true b 32 e)), not_true _ (λ e. neither (eqb-true b 9 e))) refl) ∙ h))) (cases_eq b 9) in ap is_value_byte tab)
    (cases_eq b 32)

all_split : (n : ℕ) (xs : List ℕ) → list_all is_value_byte (take n xs) ≡ true → list_all is_value_byte (drop n xs) ≡ true → list_all is_value_byte xs ≡ true
all_split n xs a b = ap (list_all is_value_byte) (sym (take-append-drop n xs)) ∙ list_all-append is_value_byte (take n xs) (drop n xs) ∙ and_from _ _ a b

front_blank : (xs : List ℕ) → list_all is_value_byte (take (prefix_len is_blank xs) xs) ≡ true
front_blank [] = refl
front_blank (b ∷ bs) = ⊎_elim
    (λ is. let e : prefix_len is_blank (b ∷ bs) ≡ suc (prefix_len is_blank bs) = rw is (omega arith) in ap (λ k. list_all is_value_byte (take k (b ∷ bs))) e ∙ and_from _ _ (blank_value b is) (front_blank bs))
    (λ other. let e : prefix_len is_blank (b ∷ bs) ≡ 0 = rw other in ap (λ k. list_all is_value_byte (take k (b ∷ bs))) e)
    (true_or_false (is_blank b))

back_blank : (xs : List ℕ) → list_all is_value_byte (drop (length xs - suffix_len is_blank xs) xs) ≡ true
back_blank xs =
    let s = suffix_len is_blank xs in
    let m = length xs - s in
    let fits = suffix_len-le-length is_blank xs in
    list_all-from_AllPass is_value_byte (drop m xs) (λ k d l.
    let size : k + m < length xs = omega (arith, l, length-drop m xs) in
    let j = length xs - 1 - (m + k) in
    let turned : get_or (reverse xs) j d ≡ get_or xs (m + k) d = get_or-reverse xs j d (omega arith) ∙ ap (λ n. get_or xs n d) (let e : length xs - 1 - j ≡ m + k = omega arith in e) in
    let passes : is_blank (get_or (reverse xs) j d) ≡ true = prefix_len_passes is_blank (reverse xs) j d (omega (arith, fits)) in
    blank_value _ (ap is_blank (get_or-drop m xs k d ∙ sym turned) ∙ passes))

pub trimmed_hides_none : (xs : List ℕ) → list_all is_value_byte (trimmed xs) ≡ true → list_all is_value_byte xs ≡ true
unfolding trimmed
trimmed_hides_none xs h =
    let t = drop (prefix_len is_blank xs) xs in
    all_split (prefix_len is_blank xs) xs (front_blank xs) (all_split (length t - suffix_len is_blank t) t h (back_blank t))

-- what is left of a text, if it has no control character but tab, is a value
pub rest_is_value : (xs : List ℕ) → list_all is_value_byte (trimmed xs) ≡ true → is_value (trimmed xs) ≡ true
rest_is_value xs h = trimmed_is_value xs (trimmed_hides_none xs h)

-- what a rest means is a value
pub value_of-value : (rest v : List ℕ) → value_of rest ≡ Some v → is_value v ≡ true
unfolding value_of
value_of-value rest v h = let parts = cond_some _ _ _ h in ap is_value (sym parts.1) ∙ rest_is_value (unfolded rest) parts.0

-- both forms of what a rest means
pub means_value-value_of : (rest v : List ℕ) → MeansValue rest v → value_of rest ≡ Some v
unfolding value_of
means_value-value_of rest v h = rw (h.text, h.clean) refl

pub value_of-means_value : (rest v : List ℕ) → value_of rest ≡ Some v → MeansValue rest v
unfolding value_of
value_of-means_value rest v h = let parts = cond_some _ _ _ h in record { text = parts.1; clean = ap (list_all is_value_byte) (sym parts.1) ∙ parts.0 }

value_no_cr : (b : ℕ) → is_value_byte b ≡ true → b ≡ 13 → ⊥
unfolding is_value_byte
value_no_cr b h e = false≢true (let no : is_value_byte 13 ≡ true = ap is_value_byte (sym e) ∙ h in no)

-- a text without control characters is one part
pub one_part : (t : List ℕ) → list_all is_value_byte t ≡ true → parts t ≡ t ∷ []
one_part [] h = parts-nil
one_part (b ∷ []) h = parts-one b
one_part (b ∷ c ∷ bs) h =
    let both = and_parts (is_value_byte b) (list_all is_value_byte (c ∷ bs)) h in
    parts-more b c bs (and_false_left _ _ (not_true _ (λ is. value_no_cr b both.0 (eqb-true b 13 is)))) ∙ ap (in_front b) (one_part (c ∷ bs) both.1)

-- a rest that holds no control character but tab once it is cut at both ends
pub clean_value : (rest : List ℕ) → list_all is_value_byte (trimmed rest) ≡ true → value_of rest ≡ Some (trimmed rest)
unfolding value_of
clean_value rest h =
    let flat : unfolded rest ≡ rest = unfolded-none rest (one_part rest (trimmed_hides_none rest h)) in
    rw (flat, h) refl

-- a text turned round n bytes, without its last n
pub rotated : (n : ℕ) (xs : List ℕ) → n ≤ length xs → take (length xs - n) (drop n xs ++ take n xs) ≡ drop n xs
rotated n xs h =
    let size : length xs - n ≡ length (drop n xs) = sym (length-drop n xs) in
    ap (λ k. take k (drop n xs ++ take n xs)) size ∙ take-append_seam (drop n xs) (take n xs)

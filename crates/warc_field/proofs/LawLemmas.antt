-- The laws of the module `laws`, each under its function's name.
use Rattle.std.proofs.Common.{◌≡◌, ◌↔◌, ℕ, suc, zero, ◌+◌, ◌<◌, true, false, ◌&&◌, List, [], ◌∷◌, ◌++◌, Some, Ok, Err, length, length-append, get_or, append_assoc, refl, sym, ap, ◌∙◌, arith, ⊎_elim}
use Rattle.std.specs.Prelude.{sum_by}
use Rattle.std.specs.List.{list_all}
use Rattle.std.proofs.lemmas.List.Sums.{sum_by-cons}
use Rattle.std.proofs.lemmas.Bool.{false≢true, and_parts, and_from, eqb-true}
use Rattle.warc_field.specs.Text.{is_blank, is_name, is_name_byte, is_value, is_value_byte, trimmed, AreFields}
use Rattle.warc_field.specs.Lines.{crlf, crlf_at, empty_at, is_crlf, begins_blank}
use Rattle.warc_field.specs.Area.{Pair, IsFirstBadLine, MeansValue, value_of, area_of, SpellsFields, canonical_fields}
use Rattle.warc_field.proofs.LineLemmas.{not_true, and_false_left, true_or_false, begins_blank-get}
use Rattle.warc_field.proofs.TextLemmas.{trimmed_is_value, value_of-value, means_value-value_of, value_of-means_value}
use Rattle.warc_field.proofs.SpellLemmas.{AllFold, fold-here, fold-rest, begins_blank-append, and-false, name_no_cr, name_bytes, regroup, value_folds, area-reads, area-spells, area-one}
use Rattle.warc_field.proofs.FaultLemmas.{first_bad_line-read, read-first_bad_line}
use Rattle.warc_field.proofs.CanonLemmas.{canonical_spells}

-- the relation and the computing form of what a rest means are one
pub meaning_is_computed : (rest value : List ℕ) → MeansValue rest value ↔ (value_of rest ≡ Some value)
meaning_is_computed rest value = (means_value-value_of rest value, value_of-means_value rest value)

-- an area is spelled by a list exactly if reading gives it
pub spelling_is_read : (fields : List Pair) (area : List ℕ) → SpellsFields fields area ↔ (area_of area ≡ Ok fields)
spelling_is_read fields area = (area-reads area fields, area-spells area fields)

-- reading fails exactly at the first line that is no field or isn't ended
pub first_bad_line_is_read : (area : List ℕ) (at : ℕ) → IsFirstBadLine area at ↔ (area_of area ≡ Err at)
first_bad_line_is_read area at = (first_bad_line-read area at, read-first_bad_line area at)

-- an area is spelled by one list at most
pub spelling_is_unambiguous : (a b : List Pair) (area : List ℕ) → SpellsFields a area → SpellsFields b area → a ≡ b
spelling_is_unambiguous a b area one other = area-one area a b one other

-- what a rest means is a value
pub meaning_is_value : (rest value : List ℕ) → MeansValue rest value → is_value value ≡ true
meaning_is_value rest value means = value_of-value rest value (means_value-value_of rest value means)

-- a part of a value is a value once it is cut at both ends
pub trimmed_part_is_value : (text : List ℕ) → list_all is_value_byte text ≡ true → is_value (trimmed text) ≡ true
trimmed_part_is_value text holds = trimmed_is_value text holds

-- what an area is spelled by are names and values
pub spelled_are_fields : (fields : List Pair) (area : List ℕ) → SpellsFields fields area → AreFields fields
spelled_are_fields [] area spells = tt
spelled_are_fields (f ∷ fs) area (line, more, is, e, spells) = ((is.name, meaning_is_value is.rest f.1 is.value), spelled_are_fields fs more spells)

-- the canonical lines of fields spell them
pub canonical_text_spells : (fields : List Pair) → AreFields fields → SpellsFields fields (canonical_fields fields)
canonical_text_spells fields are = canonical_spells fields are

-- there is none in front of place n
abbrev NoneAbove : List ℕ → ℕ → Type 0
NoneAbove t n = (k : ℕ) → k < n → empty_at t k ≡ false

none_skip : (b : ℕ) (t : List ℕ) (n : ℕ) → empty_at (b ∷ t) 0 ≡ false → NoneAbove t n → NoneAbove (b ∷ t) (suc n)
none_skip b t n here rest zero l = here
none_skip b t n here rest (suc k) l = rest k (omega arith)

colon_no_cr : (n : ℕ) → n ≡ 58 → n ≡ 13 → ⊥
colon_no_cr n a b = omega arith

lf_no_cr : (n : ℕ) → n ≡ 10 → n ≡ 13 → ⊥
lf_no_cr n a b = omega arith

no_cr : (b c : ℕ) → (b ≡ 13 → ⊥) → is_crlf b c ≡ false
no_cr b c ne = and_false_left _ _ (not_true _ (λ is. ne (eqb-true b 13 is)))

none_other : (b : ℕ) (t : List ℕ) (n : ℕ) → (b ≡ 13 → ⊥) → NoneAbove t n → NoneAbove (b ∷ t) (suc n)
none_other b t n ne rest = none_skip b t n (and_false_left _ _ (no_cr b _ ne)) rest

none_name : (name t : List ℕ) (n : ℕ) → list_all is_name_byte name ≡ true → NoneAbove t n → NoneAbove (name ++ t) (length name + n)
none_name [] t n all rest = λ k l. rest k (omega arith)
none_name (b ∷ bs) t n all rest =
    let both = and_parts _ _ all in
    λ k l. none_other b (bs ++ t) (length bs + n) (name_no_cr b both.0) (none_name bs t n both.1 rest) k (omega arith)

blank_no_cr : (b c : ℕ) → is_blank b ≡ true → is_crlf b c ≡ false
unfolding is_blank
blank_no_cr b c h = no_cr b c (λ e. false≢true (let no : is_blank 13 ≡ true = ap is_blank (sym e) ∙ h in no))

blank-second : (t : List ℕ) → begins_blank t ≡ true → is_crlf (get_or t 0 0) (get_or t 1 0) ≡ false
blank-second t h = blank_no_cr _ _ (sym (begins_blank-get t) ∙ h)

none_rest : (rest more : List ℕ) (n : ℕ) → AllFold rest → NoneAbove (13 ∷ 10 ∷ more) n → NoneAbove (rest ++ 13 ∷ 10 ∷ more) (length rest + n)
none_rest [] more n f left = λ k l. left k (omega arith)
none_rest (b ∷ []) more n f left = λ k l. none_skip b (13 ∷ 10 ∷ more) n (and_false_left _ _ (and-false _)) left k (omega arith)
none_rest (b ∷ c ∷ bs) more n f left =
    let skip : empty_at (b ∷ c ∷ bs ++ 13 ∷ 10 ∷ more) 0 ≡ false = ⊎_elim
    (λ cr. ap (λ v. is_crlf b c && v) (blank-second (bs ++ 13 ∷ 10 ∷ more) (begins_blank-append bs (13 ∷ 10 ∷ more) (fold-here b c bs f cr))) ∙ and-false _)
    (λ other. and_false_left _ _ other)
    (true_or_false (is_crlf b c)) in
    λ k l. none_skip b ((c ∷ bs) ++ 13 ∷ 10 ∷ more) (length (c ∷ bs) + n) skip (none_rest (c ∷ bs) more n (fold-rest b c bs f) left) k (omega arith)

name-first : (name more : List ℕ) (c : ℕ) → is_name name ≡ true → is_crlf (get_or (name ++ more) 0 0) c ≡ false
unfolding is_name
name-first [] more c n = absurd (false≢true n)
name-first (b ∷ bs) more c n = no_cr b c (name_no_cr b (and_parts (is_name_byte b) _ (name_bytes (b ∷ bs) n)).0)

-- a field's line, the lines after it and what follows them
regroup_more : (name rest left tail : List ℕ) → (name ++ (58 ∷ rest ++ 13 ∷ 10 ∷ left)) ++ tail ≡ name ++ (58 ∷ (rest ++ 13 ∷ 10 ∷ (left ++ tail)))
regroup_more name rest left tail = append_assoc name (58 ∷ rest ++ 13 ∷ 10 ∷ left) tail ∙ ap (λ xs. name ++ xs) (append_assoc (58 ∷ rest) (13 ∷ 10 ∷ left) tail)

none_area : (fields : List Pair) (area more : List ℕ) → SpellsFields fields area → NoneAbove (13 ∷ 10 ∷ (area ++ 13 ∷ 10 ∷ more)) (length area)
none_area [] area more h = λ k l. absurd (omega (arith, ap length h, l))
none_area (f ∷ fs) area more (line, left, is, e, spells) =
    let rest = is.rest in
    let y = 58 ∷ (rest ++ 13 ∷ 10 ∷ (left ++ 13 ∷ 10 ∷ more)) in
    let text : area ≡ f.0 ++ (58 ∷ rest ++ 13 ∷ 10 ∷ left) = e ∙ ap (λ l. l ++ left) is.text ∙ regroup f.0 rest left in
    let whole : area ++ 13 ∷ 10 ∷ more ≡ f.0 ++ y = ap (λ a. a ++ 13 ∷ 10 ∷ more) text ∙ regroup_more f.0 rest left (13 ∷ 10 ∷ more) in
    let n = length rest + length left in
    let following : NoneAbove (rest ++ 13 ∷ 10 ∷ (left ++ 13 ∷ 10 ∷ more)) n = none_rest rest (left ++ 13 ∷ 10 ∷ more) (length left) (value_folds rest f.1 (means_value-value_of rest f.1 is.value)) (none_area fs left more spells) in
    let colon : NoneAbove y (suc n) = none_other 58 (rest ++ 13 ∷ 10 ∷ (left ++ 13 ∷ 10 ∷ more)) n (colon_no_cr 58 refl) following in
    let named : NoneAbove (f.0 ++ y) (length f.0 + suc n) = none_name f.0 y (suc n) (name_bytes f.0 is.name) colon in
    let after_lf : NoneAbove (10 ∷ (f.0 ++ y)) (suc (length f.0 + suc n)) = none_other 10 (f.0 ++ y) _ (lf_no_cr 10 refl) named in
    let after_cr : NoneAbove (13 ∷ 10 ∷ (f.0 ++ y)) (suc (suc (length f.0 + suc n))) = none_skip 13 (10 ∷ (f.0 ++ y)) _ (name-first f.0 y (get_or (f.0 ++ y) 1 0) is.name) after_lf in
    let size : length area ≡ suc (suc (length f.0 + suc n)) = omega (arith, ap length text, length-append f.0 (58 ∷ rest ++ 13 ∷ 10 ∷ left), length-append (58 ∷ rest) (13 ∷ 10 ∷ left)) in
    λ k l. ap (λ xs. empty_at (13 ∷ 10 ∷ xs) k) whole ∙ after_cr k (omega (arith, size, l))

get_or-following : (xs ys : List ℕ) (k : ℕ) → get_or (xs ++ ys) (length xs + k) 0 ≡ get_or ys k 0
get_or-following [] ys k = ap (λ n. get_or ys n 0) (let e : 0 + k ≡ k = omega arith in e)
get_or-following (x ∷ xs) ys k = ap (λ n. get_or (x ∷ (xs ++ ys)) n 0) (let e : suc (length xs) + k ≡ suc (length xs + k) = omega arith in e) ∙ get_or-following xs ys k

crlf_at-following : (xs ys : List ℕ) (k : ℕ) → crlf_at (xs ++ ys) (length xs + k) ≡ crlf_at ys k
crlf_at-following xs ys k =
    let e : suc (length xs + k) ≡ length xs + suc k = omega arith in
    rw (get_or-following xs ys k, e, get_or-following xs ys (suc k))

-- a field's line, its CRLF and what follows it, after a CRLF
regroup_front : (name rest left tail : List ℕ) → 13 ∷ 10 ∷ (name ++ (58 ∷ (rest ++ 13 ∷ 10 ∷ (left ++ tail)))) ≡ (13 ∷ 10 ∷ (name ++ 58 ∷ rest)) ++ (13 ∷ 10 ∷ (left ++ tail))
regroup_front name rest left tail = ap (λ xs. 13 ∷ 10 ∷ xs) (sym (append_assoc name (58 ∷ rest) (13 ∷ 10 ∷ (left ++ tail))))

-- after a CRLF, an area that is spelled ends with one
ends_crlf : (fields : List Pair) (area tail : List ℕ) → SpellsFields fields area → crlf_at (13 ∷ 10 ∷ (area ++ tail)) (length area) ≡ true
ends_crlf [] area tail h = ap (λ a. crlf_at (13 ∷ 10 ∷ (a ++ tail)) (length a)) h
ends_crlf (f ∷ fs) area tail (line, left, is, e, spells) =
    let rest = is.rest in
    let front = 13 ∷ 10 ∷ (f.0 ++ 58 ∷ rest) in
    let text : area ≡ f.0 ++ (58 ∷ rest ++ 13 ∷ 10 ∷ left) = e ∙ ap (λ l. l ++ left) is.text ∙ regroup f.0 rest left in
    let whole : 13 ∷ 10 ∷ (area ++ tail) ≡ front ++ (13 ∷ 10 ∷ (left ++ tail)) = ap (λ a. 13 ∷ 10 ∷ (a ++ tail)) text ∙ ap (λ xs. 13 ∷ 10 ∷ xs) (regroup_more f.0 rest left tail) ∙ regroup_front f.0 rest left tail in
    let size : length area ≡ length front + length left = omega (arith, ap length text, length-append f.0 (58 ∷ rest ++ 13 ∷ 10 ∷ left), length-append (58 ∷ rest) (13 ∷ 10 ∷ left), length-append f.0 (58 ∷ rest)) in
    ap (λ xs. crlf_at xs (length area)) whole ∙ ap (crlf_at (front ++ (13 ∷ 10 ∷ (left ++ tail)))) size ∙ crlf_at-following front (13 ∷ 10 ∷ (left ++ tail)) (length left) ∙ ends_crlf fs left tail spells

-- after the version line's CRLF, the first empty line is that after the area
pub empty_line_ends_area : (fields : List Pair) (area more : List ℕ) → SpellsFields fields area → (empty_at (crlf ++ (area ++ (crlf ++ more))) (length area) ≡ true) × ((k : ℕ) → k < length area → empty_at (crlf ++ (area ++ (crlf ++ more))) k ≡ false)
empty_line_ends_area fields area more spells =
    let second : crlf_at (13 ∷ 10 ∷ (area ++ 13 ∷ 10 ∷ more)) (suc (suc (length area))) ≡ true = ap (crlf_at (area ++ 13 ∷ 10 ∷ more)) (let e : length area ≡ length area + 0 = omega arith in e) ∙ crlf_at-following area (13 ∷ 10 ∷ more) 0 in
    (and_from _ _ (ends_crlf fields area (13 ∷ 10 ∷ more) spells) second, none_area fields area more spells)

-- how long the canonical lines are: four bytes a field beside its name and value
pub canonical_text_length : (fields : List Pair) → length (canonical_fields fields) ≡ sum_by (λ (field : Pair). length field.0 + length field.1 + 4) fields
canonical_text_length [] = refl
canonical_text_length (f ∷ fs) =
    let line : length (f.0 ++ 58 ∷ 32 ∷ f.1 ++ crlf) ≡ length f.0 + length f.1 + 4 = omega (arith, length-append (f.0 ++ 58 ∷ 32 ∷ f.1) crlf, length-append f.0 (58 ∷ 32 ∷ f.1)) in
    length-append (f.0 ++ 58 ∷ 32 ∷ f.1 ++ crlf) (canonical_fields fs) ∙ ap (λ n. n + length (canonical_fields fs)) line ∙ ap (λ n. length f.0 + length f.1 + 4 + n) (canonical_text_length fs) ∙ sym (sum_by-cons (λ (field : Pair). length field.0 + length field.1 + 4) f fs)

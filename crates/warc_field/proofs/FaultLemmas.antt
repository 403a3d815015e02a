-- Where reading fails the first bad line begins, and where that begins reading fails.
use Rattle.std.proofs.Common.{◌≡◌, ℕ, ◌+◌, ◌<◌, true, false, List, [], ◌∷◌, ◌++◌, Option, Some, None, Result, Ok, Err, length, length-append, subst, append_assoc, refl, sym, ap, ◌∙◌, arith, inl, inr, ◌⊎◌, ⊎_elim}
use Rattle.std.proofs.lemmas.Bool.{false≢true, cases_lt}
use Rattle.warc_field.specs.Lines.{crlf, lines, begins_blank, in_front}
use Rattle.warc_field.specs.Area.{Pair, IsFieldLine, IsFirstBadLine, SpellsFields, area_of, field_of, fields_of, field_then, with_front}
use Rattle.warc_field.proofs.LineLemmas.{lines-cons, lines-nil, true_or_false}
use Rattle.warc_field.proofs.AreaLemmas.{fields_of-line}
use Rattle.warc_field.proofs.TextLemmas.{means_value-value_of, value_of-means_value}
use Rattle.warc_field.proofs.SpellLemmas.{colon_no_cr, field-at, field-is, lines-before, lines-cut, lines-empty, lines-keep, lines-uncut, name_bytes, name_no_cr, name_some, regroup, value_folds}

-- the first line of a text that begins with a field's line
field_line-cut : (field : Pair) (line more : List ℕ) (is : IsFieldLine field line) → begins_blank more ≡ false → lines (line ++ more) ≡ (field.0 ++ 58 ∷ is.rest) ∷ lines more
field_line-cut field line more is begins =
    let rest = is.rest in
    let text : line ++ more ≡ field.0 ++ (58 ∷ rest ++ 13 ∷ 10 ∷ more) = ap (λ l. l ++ more) is.text ∙ regroup field.0 rest more in
    let cut : lines (rest ++ 13 ∷ 10 ∷ more) ≡ rest ∷ lines more = lines-cut rest more (value_folds rest field.1 (means_value-value_of rest field.1 is.value)) begins in
    let colon : lines (58 ∷ rest ++ 13 ∷ 10 ∷ more) ≡ (58 ∷ rest) ∷ lines more = lines-keep 58 (rest ++ 13 ∷ 10 ∷ more) (colon_no_cr 58 refl) ∙ ap (in_front 58) cut in
    ap lines text ∙ lines-before field.0 (58 ∷ rest ++ 13 ∷ 10 ∷ more) (58 ∷ rest) (lines more) name_no_cr (name_bytes field.0 is.name) colon

-- that line is the field
field_line-field : (field : Pair) (line : List ℕ) (is : IsFieldLine field line) → field_of (field.0 ++ 58 ∷ is.rest) ≡ Some field
field_line-field field line is = field-at field.0 is.rest field.1 is.name (means_value-value_of is.rest field.1 is.value)

-- a line that is a field, with its CRLF
field_line-of : (line : List ℕ) (field : Pair) → field_of line ≡ Some field → IsFieldLine field (line ++ crlf)
field_line-of line field h =
    let is = field-is line field h in
    record { rest = is.0; name = is.1; value = value_of-means_value is.0 field.1 is.2; text = ap (λ l. l ++ crlf) is.3 }

-- no field's line begins a text, unless a space or tab follows it
abbrev NoField : List ℕ → Type 0
NoField rest = (field : Pair) (line more : List ℕ) → IsFieldLine field line → rest ≡ line ++ more → begins_blank more ≡ true

single-no_field : (area p : List ℕ) → lines area ≡ p ∷ [] → NoField area
single-no_field area p e = λ field line more is cut. ⊎_elim
    (λ blank. blank)
    (λ other.
    let two : lines area ≡ (field.0 ++ 58 ∷ is.rest) ∷ lines more = ap lines cut ∙ field_line-cut field line more is other in
    let some = lines-cons more in
    let no : p ∷ [] ≡ (field.0 ++ 58 ∷ is.rest) ∷ some.0 ∷ some.1 = sym e ∙ two ∙ ap (λ ls. (field.0 ++ 58 ∷ is.rest) ∷ ls) some.2 in
    absurd cc)
    (true_or_false (begins_blank more))

none_not_some : (field : Pair) (o : Option Pair) → o ≡ None → o ≡ Some field → ⊥
none_not_some field o a b = cc

bad-no_field : (area p : List ℕ) (ps : List (List ℕ)) → lines area ≡ p ∷ ps → field_of p ≡ None → NoField area
bad-no_field area p ps e none = λ field line more is cut. ⊎_elim
    (λ blank. blank)
    (λ other.
    let two : lines area ≡ (field.0 ++ 58 ∷ is.rest) ∷ lines more = ap lines cut ∙ field_line-cut field line more is other in
    let both : p ∷ ps ≡ (field.0 ++ 58 ∷ is.rest) ∷ lines more = sym e ∙ two in
    let same : p ≡ field.0 ++ 58 ∷ is.rest = cc in
    absurd (none_not_some field (field_of p) none (ap field_of same ∙ field_line-field field line is)))
    (true_or_false (begins_blank more))

none_or_some : (o : Option Pair) → (o ≡ None) ⊎ ((field : Pair) × (o ≡ Some field))
none_or_some None = inl refl
none_or_some (Some field) = inr (field, refl)

with_front-err : (front : List Pair) (r : Result (List Pair) ℕ) (at : ℕ) → with_front front r ≡ Err at → r ≡ Err at
with_front-err front (Ok fields) at h = absurd cc
with_front-err front (Err n) at h = let e : n ≡ at = cc in ap (λ k. Err k) e

nonempty : (area p : List ℕ) (b : ℕ) (bs : List ℕ) → lines area ≡ (b ∷ bs) ∷ [] → 0 < length area
nonempty [] p b bs e = let no : ([] ∷ []) ≡ (b ∷ bs) ∷ [] = sym lines-nil ∙ e in absurd cc
nonempty (x ∷ xs) p b bs e = omega arith

two_nonempty : (area line next : List ℕ) (rest : List (List ℕ)) → lines area ≡ line ∷ next ∷ rest → 0 < length area
two_nonempty [] line next rest e = let no : ([] ∷ []) ≡ line ∷ next ∷ rest = sym lines-nil ∙ e in absurd cc
two_nonempty (x ∷ xs) line next rest e = omega arith

err_same : (m n : ℕ) → ◌≡◌ {A = Result (List Pair) ℕ} (Err m) (Err n) → m ≡ n
err_same m n e = cc

-- a bad line at the front
at_front : (area : List ℕ) → 0 < length area → NoField area → IsFirstBadLine area 0
at_front area some bad = record {
  fields = [];
  front = [];
  rest = area;
  whole = refl;
  place = refl;
  spelled = refl;
  left = some;
  begins = λ l. absurd (omega (arith, l));
  bad = bad;
}

empty_front : (front rest more : List ℕ) → more ≡ front ++ rest → length front ≡ 0 → rest ≡ more
empty_front [] rest more e h = sym e
empty_front (x ∷ xs) rest more e h = absurd (omega (arith, h))

-- a bad line after a field's line
following : (field : Pair) (line more : List ℕ) (k : ℕ) → IsFieldLine field line → begins_blank more ≡ false → IsFirstBadLine more k → IsFirstBadLine (line ++ more) (length line + k)
following field line more k is begins later = record {
  fields = field ∷ later.fields;
  front = line ++ later.front;
  rest = later.rest;
  whole = ap (λ xs. line ++ xs) later.whole ∙ sym (append_assoc line later.front later.rest);
  place = ap (λ n. length line + n) later.place ∙ sym (length-append line later.front);
  spelled = (line, later.front, is, refl, later.spelled);
  left = later.left;
  begins = λ l. ⊎_elim
      (λ none. ap begins_blank (empty_front later.front later.rest more later.whole (omega (arith, none))) ∙ begins)
      (λ some. later.begins (omega (arith, some)))
      (cases_lt (length later.front) 1);
  bad = later.bad;
}

err-found : (ls : List (List ℕ)) (area : List ℕ) (from at : ℕ) → lines area ≡ ls → fields_of from ls ≡ Err at → (k : ℕ) × (at ≡ from + k) × IsFirstBadLine area k
unfolding fields_of
err-found [] area from at e h = let some = lines-cons area in let no : (some.0 ∷ some.1) ≡ [] = sym some.2 ∙ e in absurd cc
err-found ([] ∷ []) area from at e h = absurd cc
err-found ((b ∷ bs) ∷ []) area from at e h =
    let here : from ≡ at = err_same from at h in
    (0, omega (arith, here), at_front area (nonempty area [] b bs e) (single-no_field area (b ∷ bs) e))
err-found (line ∷ next ∷ rest) area from at e h = ⊎_elim
    (λ none.
    let here : from ≡ at = err_same from at (sym (ap (λ o. field_then from o (fields_of (from + length line + 2) (next ∷ rest))) none) ∙ h) in
    (0, omega (arith, here), at_front area (two_nonempty area line next rest e) (bad-no_field area line (next ∷ rest) e none)))
    (λ some.
    let cut = lines-uncut area line next rest e in
    let inner : fields_of (from + length line + 2) (next ∷ rest) ≡ Err at = with_front-err (some.0 ∷ []) _ at (sym (ap (λ o. field_then from o (fields_of (from + length line + 2) (next ∷ rest))) some.1) ∙ h) in
    let later = err-found (next ∷ rest) cut.0 (from + length line + 2) at cut.2 inner in
    let whole : area ≡ (line ++ crlf) ++ cut.0 = cut.1 ∙ sym (append_assoc line crlf cut.0) in
    let size = length-append line crlf in
    (length (line ++ crlf) + later.0, omega (arith, later.1, size), subst (λ a. IsFirstBadLine a (length (line ++ crlf) + later.0)) (sym whole) (following some.0 (line ++ crlf) cut.0 later.0 (field_line-of line some.0 some.1) cut.3 later.2)))
    (none_or_some (field_of line))

-- a text that begins with a spelled area and goes on with no blank
begins_spelled : (fields : List Pair) (front rest : List ℕ) → SpellsFields fields front → begins_blank rest ≡ false → begins_blank (front ++ rest) ≡ false
begins_spelled [] front rest h other = ap (λ f. begins_blank (f ++ rest)) h ∙ other
begins_spelled (f ∷ fs) front rest (line, more, is, e, spells) other =
    let text : front ++ rest ≡ f.0 ++ (58 ∷ is.rest ++ 13 ∷ 10 ∷ (more ++ rest)) = ap (λ a. a ++ rest) e ∙ append_assoc line more rest ∙ ap (λ l. l ++ (more ++ rest)) is.text ∙ regroup f.0 is.rest (more ++ rest) in
    ap begins_blank text ∙ name_some f.0 (58 ∷ is.rest ++ 13 ∷ 10 ∷ (more ++ rest)) is.name

rest-err : (ls : List (List ℕ)) (rest : List ℕ) (from : ℕ) → lines rest ≡ ls → 0 < length rest → NoField rest → fields_of from ls ≡ Err from
unfolding fields_of
rest-err [] rest from e some bad = let cons = lines-cons rest in let no : (cons.0 ∷ cons.1) ≡ [] = sym cons.2 ∙ e in absurd cc
rest-err ([] ∷ []) rest from e some bad = absurd (omega (arith, ap length (lines-empty rest e), some))
rest-err ((b ∷ bs) ∷ []) rest from e some bad = refl
rest-err (line ∷ next ∷ ls) rest from e some bad = ⊎_elim
    (λ none. ap (λ o. field_then from o (fields_of (from + length line + 2) (next ∷ ls))) none)
    (λ found.
    let cut = lines-uncut rest line next ls e in
    let blank = bad found.0 (line ++ crlf) cut.0 (field_line-of line found.0 found.1) (cut.1 ∙ sym (append_assoc line crlf cut.0)) in
    absurd (false≢true (sym cut.3 ∙ blank)))
    (none_or_some (field_of line))

bad-err : (fields : List Pair) (front rest : List ℕ) (from : ℕ) → SpellsFields fields front → 0 < length rest → (0 < length front → begins_blank rest ≡ false) → NoField rest → fields_of from (lines (front ++ rest)) ≡ Err (from + length front)
bad-err [] front rest from h some begins bad =
    ap (λ f. fields_of from (lines (f ++ rest))) h ∙ rest-err (lines rest) rest from refl some bad ∙ ap (λ k. Err k) (omega (arith, ap length h))
bad-err (f ∷ fs) front rest from (line, more, is, e, spells) some begins bad =
    let content = f.0 ++ 58 ∷ is.rest in
    let size : length line ≡ length content + 2 = ap length is.text ∙ length-append content crlf in
    let long : 0 < length front = omega (arith, ap length e, length-append line more, size, length-append f.0 (58 ∷ is.rest)) in
    let other : begins_blank rest ≡ false = begins long in
    let after : begins_blank (more ++ rest) ≡ false = begins_spelled fs more rest spells other in
    let cut : lines (front ++ rest) ≡ content ∷ lines (more ++ rest) = ap lines (ap (λ a. a ++ rest) e ∙ append_assoc line more rest) ∙ field_line-cut f line (more ++ rest) is after in
    let deeper = bad-err fs more rest (from + length content + 2) spells some (λ l. other) bad in
    ap (fields_of from) cut
    ∙ fields_of-line from content (more ++ rest)
    ∙ ap (λ o. field_then from o (fields_of (from + length content + 2) (lines (more ++ rest)))) (field_line-field f line is)
    ∙ ap (with_front (f ∷ [])) deeper
    ∙ ap (λ k. Err k) (omega (arith, ap length e, length-append line more, size))

pub read-first_bad_line : (area : List ℕ) (at : ℕ) → area_of area ≡ Err at → IsFirstBadLine area at
read-first_bad_line area at h =
    let found = err-found (lines area) area 0 at refl h in
    let here : found.0 ≡ at = omega (arith, found.1) in
    subst (IsFirstBadLine area) here found.2

pub first_bad_line-read : (area : List ℕ) (at : ℕ) → IsFirstBadLine area at → area_of area ≡ Err at
first_bad_line-read area at is =
    ap (λ a. fields_of 0 (lines a)) is.whole ∙ bad-err is.fields is.front is.rest 0 is.spelled is.left is.begins is.bad ∙ ap (λ k. Err k) (omega (arith, is.place))

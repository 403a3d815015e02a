-- A field on one line, and the fields before it.
use Rattle.std.proofs.Common.{◌≡◌, Some, ℕ, ◌+◌, ◌<◌, true, List, [], ◌∷◌, ◌++◌, length, length-append, take, drop, get_or, append_assoc, refl, sym, ap, ◌∙◌, arith}
use Rattle.std.specs.List.{list_all}
use Rattle.std.proofs.lemmas.Bool.{and_parts}
use Rattle.std.proofs.lemmas.Grind.{common_steps}
use Rattle.warc_field.specs.Area.{Pair, IsFieldLine, MeansValue, SpellsFields}
use Rattle.warc_field.specs.Lines.{crlf}
use Rattle.warc_field.specs.Text.{is_value, is_value_byte, trimmed}
use Rattle.warc_field.proofs.LineLemmas.{append_nil}
use Rattle.warc_field.proofs.TextLemmas.{clean_value, value_of-means_value}

-- a rest without control characters but tabs means what is left of it once it is cut at both ends
pub plain_means : (rest value : List ℕ) → value ≡ trimmed rest → is_value value ≡ true → MeansValue rest value
unfolding is_value
plain_means rest value cut is =
    let whole : list_all is_value_byte (trimmed rest) ≡ true = ap (list_all is_value_byte) (sym cut) ∙ (and_parts _ _ (and_parts _ _ is).0).0 in
    value_of-means_value rest value (clean_value rest whole ∙ ap (λ text. Some text) (sym cut))

split_at : (text : List ℕ) (k : ℕ) → k < length text → text ≡ take k text ++ get_or text k 0 ∷ drop (k + 1) text
split_at text k inside = grind (arith, common_steps)

regroup : (name rest more : List ℕ) → name ++ 58 ∷ (rest ++ (crlf ++ more)) ≡ (name ++ 58 ∷ rest ++ crlf) ++ more
regroup name rest more =
    sym (append_assoc (name ++ 58 ∷ rest) crlf more ∙ append_assoc name (58 ∷ rest) (crlf ++ more))

-- a text with a name before its first colon, and after it a rest and a CRLF
pub line_is : (text rest more : List ℕ) (k : ℕ) → k < length text → get_or text k 0 ≡ 58
    → drop (k + 1) text ≡ rest ++ (crlf ++ more)
    → text ≡ (take k text ++ 58 ∷ rest ++ crlf) ++ more
line_is text rest more k inside colon after =
    split_at text k inside ∙ ap (λ b. take k text ++ b ∷ drop (k + 1) text) colon
    ∙ ap (λ xs. take k text ++ 58 ∷ xs) after ∙ regroup (take k text) rest more

-- the line of one more field
pub spells_more : (fields : List Pair) (area : List ℕ) (field : Pair) (line : List ℕ) → SpellsFields fields area
    → IsFieldLine field line → SpellsFields (fields ++ field ∷ []) (area ++ line)
spells_more [] area field line spelled is = (line, [], is, ap (λ a. a ++ line) spelled ∙ sym (append_nil line), refl)
spells_more (f ∷ fs) area field line (first, more, one, whole, spelled) is =
    (first, more ++ line, one, ap (λ a. a ++ line) whole ∙ append_assoc first more line, spells_more fs more field line spelled is)

-- a field's line isn't empty
pub some_bytes : (field : Pair) (line : List ℕ) → IsFieldLine field line → 0 < length line
some_bytes field line is =
    let size : length (field.0 ++ 58 ∷ is.rest ++ crlf) ≡ length field.0 + length is.rest + 3 = simp length-append (omega arith) in
    omega (arith, ap length is.text ∙ size)

-- The values of fields hold together no more bytes than the lines that spell the fields.
use Rattle.std.proofs.Common.{◌≡◌, ℕ, ◌+◌, ◌≤◌, ⊎_elim, Bool, true, false, not, List, [], ◌∷◌, ◌++◌, length, Option, Some, if◌then◌else◌, length-append, refl, ◌∙◌, ap, arith}
use Rattle.std.specs.Prelude.{option_map, unwrap_or, find}
use Rattle.std.specs.List.{list_all}
use Rattle.std.proofs.lemmas.Slice.Eq.{bytes_eq-Decides}
use Rattle.std.proofs.lemmas.Bool.{not-true}
use Rattle.std.specs.Str.{bytes_eq}
use Rattle.warc_field.specs.Area.{Pair, IsFieldLine, SpellsFields, first_value}
use Rattle.warc_field.specs.Lines.{crlf, unfolded}
use Rattle.warc_field.specs.Text.{lower, same, trimmed}
use Rattle.warc_field.proofs.LengthLemmas.{trimmed_len, unfolded_len}
use Rattle.warc_field.proofs.LineLemmas.{and_left, and_right, true_or_false}

line_len : (f : Pair) (line : List ℕ) → IsFieldLine f line → length f.1 ≤ length line
line_len f line is =
    let rest = is.rest in
    let size : length (f.0 ++ 58 ∷ rest ++ crlf) ≡ length f.0 + length rest + 3 = simp length-append (omega arith) in
    let whole : length line ≡ length f.0 + length rest + 3 = ap length is.text ∙ size in
    let value : length (trimmed (unfolded rest)) ≡ length f.1 = ap length is.value.text in
    omega (arith, value, trimmed_len (unfolded rest), unfolded_len rest, whole)

-- the bytes of all values
abbrev values_len : List Pair → ℕ
values_len [] = 0
values_len (f ∷ fs) = length f.1 + values_len fs

area_len : (fields : List Pair) (area : List ℕ) → SpellsFields fields area → values_len fields ≤ length area
area_len [] area is = omega arith
area_len (f ∷ fs) area (line, more, one, whole, rest) =
    omega (arith, line_len f line one, area_len fs more rest, ap length whole, length-append line more)

-- the bytes of the first value of a name, and of the first values of names
abbrev pub value_len : List ℕ → List Pair → ℕ
value_len name fields = length (unwrap_or (first_value name fields) [])

abbrev pub named_len : List (List ℕ) → List Pair → ℕ
named_len [] fields = 0
named_len (name ∷ names) fields = value_len name fields + named_len names fields

-- names of which no two are the same
abbrev pub AreApart : List (List ℕ) → Type 0
AreApart [] = Unit {0}
AreApart (name ∷ names) = (list_all (λ other. not (same name other)) names ≡ true) × AreApart names

-- what a field adds to the first values of names at most
abbrev added : Bool → ℕ → ℕ
added true n = n
added false n = 0

abbrev all_added : Pair → List (List ℕ) → ℕ
all_added f [] = 0
all_added f (name ∷ names) = added (same f.0 name) (length f.1) + all_added f names

same_other : (text one other : List ℕ) → same text one ≡ true → same one other ≡ false → same text other ≡ false
same_other text one other is differ =
    ap (λ t. bytes_eq t (lower other)) ((bytes_eq-Decides (lower text) (lower one)).0 is) ∙ differ

none_added : (f : Pair) (name : List ℕ) (names : List (List ℕ)) → same f.0 name ≡ true
    → list_all (λ other. not (same name other)) names ≡ true → all_added f names ≡ 0
none_added f name [] is apart = refl
none_added f name (other ∷ names) is apart =
    let differs = same_other f.0 name other is (not-true (same name other) (and_left _ _ apart)) in
    let none : added (same f.0 other) (length f.1) ≡ 0 = ap (λ b. added b (length f.1)) differs in
    omega (arith, none, none_added f name names is (and_right _ _ apart))

-- so that is no more than its own value
once_added : (f : Pair) (names : List (List ℕ)) → AreApart names → all_added f names ≤ length f.1
once_added f [] apart = omega arith
once_added f (name ∷ names) (apart, rest) =
    ⊎_elim
    (λ is. omega (arith, ap (λ b. added b (length f.1)) is, none_added f name names is apart))
    (λ no. omega (arith, ap (λ b. added b (length f.1)) no, once_added f names rest))
    (true_or_false (same f.0 name))

value_more : (b : Bool) (f : Pair) (rest : Option Pair)
    → length (unwrap_or (option_map (λ (g : Pair). g.1) (if b then Some f else rest)) [])
    ≤ added b (length f.1) + length (unwrap_or (option_map (λ (g : Pair). g.1) rest) [])
value_more true f rest = omega arith
value_more false f rest = omega arith

named_more : (f : Pair) (fields : List Pair) (names : List (List ℕ))
    → named_len names (f ∷ fields) ≤ all_added f names + named_len names fields
named_more f fields [] = omega arith
named_more f fields (name ∷ names) =
    omega (arith, value_more (same f.0 name) f (find (λ (g : Pair). same g.0 name) fields), named_more f fields names)

named_none : (names : List (List ℕ)) → named_len names [] ≡ 0
named_none [] = refl
named_none (name ∷ names) = omega (arith, named_none names)

named_short : (names : List (List ℕ)) → AreApart names → (fields : List Pair)
    → named_len names fields ≤ values_len fields
named_short names apart [] = omega (arith, named_none names)
named_short names apart (f ∷ fields) =
    omega (arith, named_more f fields names, once_added f names apart, named_short names apart fields)

-- the first values of names of which no two are the same, in lines that spell fields
pub named_in_area : (names : List (List ℕ)) → AreApart names → (fields : List Pair) (area : List ℕ)
    → SpellsFields fields area
    → named_len names fields ≤ length area
named_in_area names apart fields area is = omega (arith, named_short names apart fields, area_len fields area is)

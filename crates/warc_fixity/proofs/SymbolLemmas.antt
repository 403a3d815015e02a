-- Characters of base32 and the five bits that they mean.
use Rattle.std.proofs.Common.{◌≡◌, ℕ, ◌+◌, ◌-◌, ◌<◌, true, ◌&&◌, nat_eq, nat_le, List, [], ◌∷◌, map, Option, Some, None, refl, sym, ap, subst, ◌∙◌, arith, if◌then◌else◌}
use Rattle.std.specs.Prelude.{position, unwrap_or, is_some}
use Rattle.std.specs.List.{list_all}
use Rattle.std.specs.Char.{to_ascii_uppercase}
use Rattle.std.proofs.lemmas.Bool.{and_parts, and_from}
use Rattle.warc_value.specs.Base32.{alphabet, symbol_of, symbol_value, is_symbol}
use Rattle.warc_value.proofs.Alphabet.{passes_below, code_of, same_code}
use Rattle.warc_value.proofs.LawLemmas.{symbol_of-symbol_value}
use Rattle.warc_fixity.proofs.BitLemmas.{is_five, a_five, five_below, same_cons}

-- what a character means, by the range that its capital is in
abbrev pub by_range : ℕ → Option ℕ
by_range symbol =
    if nat_le 65 symbol && nat_le symbol 90 then Some (symbol - 65)
    else if nat_le 50 symbol && nat_le symbol 55 then Some (symbol - 50 + 26)
    else None

pub symbol_value-range : (c : ℕ) → c < 256 → symbol_value c ≡ by_range (to_ascii_uppercase c)
unfolding symbol_value
symbol_value-range c below = same_code _ _ (passes_below (λ c. nat_eq (code_of (symbol_value c)) (code_of (by_range (to_ascii_uppercase c)))) 256 refl c below)

-- the number that a capital means
abbrev number_of_capital : ℕ → Option ℕ
number_of_capital symbol = position (λ s. nat_eq s symbol) alphabet

capitals : (n : ℕ) → n < 32 → number_of_capital (symbol_of n) ≡ Some n
unfolding symbol_of
capitals n below = same_code _ _ (passes_below (λ n. nat_eq (code_of (number_of_capital (symbol_of n))) (code_of (Some n))) 32 refl n below)

pub symbol_value-of : (c n : ℕ) → n < 32 → to_ascii_uppercase c ≡ symbol_of n → symbol_value c ≡ Some n
unfolding symbol_value
symbol_value-of c n below is = ap number_of_capital is ∙ capitals n below

-- the five bits of a character
abbrev pub five_of : ℕ → ℕ
five_of c = unwrap_or (symbol_value c) 0

-- a text of the characters of numbers
pub record Symbols (text ns : List ℕ) : Type 0 where
  pub all : list_all is_symbol text ≡ true
  pub values : map five_of text ≡ ns

pub text_of_symbols : (text ns : List ℕ) → list_all is_five ns ≡ true → map to_ascii_uppercase text ≡ map symbol_of ns → Symbols text ns
text_of_symbols [] [] small is = record { all = refl; values = refl }
text_of_symbols [] (n ∷ ns) small is = absurd (cc)
text_of_symbols (c ∷ text) [] small is = absurd (cc)
text_of_symbols (c ∷ text) (n ∷ ns) small is =
    let parts = and_parts (is_five n) (list_all is_five ns) small in
    let first : to_ascii_uppercase c ≡ symbol_of n = cc in
    let others : map to_ascii_uppercase text ≡ map symbol_of ns = cc in
    let value = symbol_value-of c n (five_below n parts.0) first in
    let later = text_of_symbols text ns parts.1 others in
    record {
      all = and_from _ _ (ap (λ (o : Option ℕ). is_some o) value) later.all;
      values = same_cons (ap (λ (o : Option ℕ). unwrap_or o 0) value) later.values;
    }

some_value : (o : Option ℕ) → is_some o ≡ true → o ≡ Some (unwrap_or o 0)
some_value None h = absurd (cc)
some_value (Some n) h = refl

-- the numbers of a text's characters
pub record Numbers (text : List ℕ) : Type 0 where
  pub small : list_all is_five (map five_of text) ≡ true
  pub capitals : map symbol_of (map five_of text) ≡ map to_ascii_uppercase text

pub numbers_of_text : (text : List ℕ) → list_all is_symbol text ≡ true → Numbers text
numbers_of_text [] all = record { small = refl; capitals = refl }
numbers_of_text (c ∷ text) all =
    let parts = and_parts _ _ all in
    let is = symbol_of-symbol_value c _ (some_value (symbol_value c) parts.0) in
    let later = numbers_of_text text parts.1 in
    record { small = and_from _ _ (a_five _ is.0) later.small; capitals = same_cons is.1 later.capitals }

below_or_zero : (c : ℕ) (o : Option ℕ) → symbol_value c ≡ o → unwrap_or o 0 < 32
below_or_zero c None is = omega arith
below_or_zero c (Some n) is = (symbol_of-symbol_value c n is).0

pub five_of-below : (c : ℕ) → five_of c < 32
five_of-below c = below_or_zero c (symbol_value c) refl

-- the five bits that the code reads
pub five_is : (c : ℕ) (o : Option ℕ) (five : ℕ) → o ≡ symbol_value c → five ≡ unwrap_or o 0 → five ≡ five_of c
five_is c o five is e = e ∙ ap (λ (p : Option ℕ). unwrap_or p 0) is

pub five_small : (c : ℕ) (o : Option ℕ) (five : ℕ) → o ≡ symbol_value c → five ≡ unwrap_or o 0 → five < 32
five_small c o five is e = subst (λ (k : ℕ). k < 32) (sym (five_is c o five is e)) (five_of-below c)

-- The bare text of a value is a value, and its own bare text.
use Rattle.std.proofs.Common.{◌≡◌, inl, inr, ℕ, zero, suc, ◌-◌, Bool, true, false, not, ◌&&◌, ◌||◌, ◌==◌, List, [], ◌∷◌, length, take, drop, if◌then◌else◌, refl, sym, ◌∙◌, ap, arith, true≢false}
use Rattle.std.specs.Prelude.{nat_lt}
use Rattle.std.specs.List.{list_all, list_any, prefix_len, suffix_len}
use Rattle.std.proofs.lemmas.Bool.{and_parts, and_from, eqb-true, cases_Bool}
use Rattle.warc_field.specs.Text.{is_blank, is_value_byte, is_value, trimmed}
use Rattle.warc_field.proofs.LawLemmas.{trimmed_part_is_value}
use Rattle.warc_record.specs.Ids.{bare_text, inner_text, is_bracket, is_bracketed}

all_take : (p : ℕ → Bool) (n : ℕ) (xs : List ℕ) → list_all p xs ≡ true → list_all p (take n xs) ≡ true
all_take p zero xs h = refl
all_take p (suc n) [] h = refl
all_take p (suc n) (x ∷ xs) h = let both = and_parts _ _ h in and_from _ _ both.0 (all_take p n xs both.1)

all_drop : (p : ℕ → Bool) (n : ℕ) (xs : List ℕ) → list_all p xs ≡ true → list_all p (drop n xs) ≡ true
all_drop p zero xs h = h
all_drop p (suc n) [] h = refl
all_drop p (suc n) (x ∷ xs) h = all_drop p n xs (and_parts _ _ h).1

-- a value's bytes may are in one
value_bytes : (value : List ℕ) → is_value value ≡ true → list_all is_value_byte value ≡ true
unfolding is_value
value_bytes value is = (and_parts _ _ (and_parts _ _ is).0).0

one_of : (p : ℕ → Bool) (b : Bool) (x y : List ℕ) → list_all p x ≡ true → list_all p y ≡ true → list_all p (if b then x else y) ≡ true
one_of p true x y f g = f
one_of p false x y f g = g

pub bare_is_value : (value : List ℕ) → is_value value ≡ true → is_value (bare_text value) ≡ true
unfolding bare_text
bare_is_value value is =
    let bytes = value_bytes value is in
    trimmed_part_is_value _ (one_of is_value_byte (is_bracketed value) (inner_text value) value (all_take is_value_byte _ _ (all_drop is_value_byte 1 value bytes)) bytes)

zero_is : (n : ℕ) → (n == 0) ≡ true → n ≡ 0
zero_is n e = eqb-true n 0 e

take_whole : (n : ℕ) (xs : List ℕ) → n ≡ length xs → take n xs ≡ xs
take_whole n [] e = ap (λ (k : ℕ). take k []) e
take_whole zero (x ∷ xs) e = absurd (omega arith)
take_whole (suc n) (x ∷ xs) e = ap (λ (t : List ℕ). x ∷ t) (take_whole n xs (omega arith))

-- a value has no blanks to be cut
pub trimmed_value : (value : List ℕ) → is_value value ≡ true → trimmed value ≡ value
unfolding trimmed is_value
trimmed_value value is =
    let parts : ((list_all is_value_byte value && (prefix_len is_blank value == 0)) ≡ true) × ((suffix_len is_blank value == 0) ≡ true) = and_parts _ _ is in
    let front : prefix_len is_blank value ≡ 0 = zero_is _ (and_parts _ _ parts.0).1 in
    let back : suffix_len is_blank value ≡ 0 = zero_is _ parts.1 in
    ap (λ (n : ℕ). let t = drop n value in take (length t - suffix_len is_blank t) t) front
    ∙ take_whole (length value - suffix_len is_blank value) value (omega arith)

none_take : (p : ℕ → Bool) (n : ℕ) (xs : List ℕ) → list_any p xs ≡ false → list_any p (take n xs) ≡ false
none_take p zero xs h = refl
none_take p (suc n) [] h = refl
none_take p (suc n) (x ∷ xs) h = elim (cases_Bool (p x)) [
  | inl hit ↦ absurd (true≢false (sym (ap (λ (b : Bool). b || list_any p xs) hit) ∙ h))
  | inr miss ↦
      let rest : list_any p xs ≡ false = sym (ap (λ (b : Bool). b || list_any p xs) miss) ∙ h in
      ap (λ (b : Bool). b || list_any p (take n xs)) miss ∙ none_take p n xs rest
]

none_drop : (p : ℕ → Bool) (n : ℕ) (xs : List ℕ) → list_any p xs ≡ false → list_any p (drop n xs) ≡ false
none_drop p zero xs h = h
none_drop p (suc n) [] h = refl
none_drop p (suc n) (x ∷ xs) h = elim (cases_Bool (p x)) [
  | inl hit ↦ absurd (true≢false (sym (ap (λ (b : Bool). b || list_any p xs) hit) ∙ h))
  | inr miss ↦ none_drop p n xs (sym (ap (λ (b : Bool). b || list_any p xs) miss) ∙ h)
]

none_trimmed : (p : ℕ → Bool) (xs : List ℕ) → list_any p xs ≡ false → list_any p (trimmed xs) ≡ false
unfolding trimmed
none_trimmed p xs h = none_take p _ _ (none_drop p _ xs h)

-- without a bracket a text isn't between two
no_pair : (more : Bool) (a b c : Bool) → a ≡ false → (more && a && b && c) ≡ false
no_pair true a b c e = ap (λ (x : Bool). (x && b) && c) e
no_pair false a b c e = refl

no_bracket : (text : List ℕ) → list_any is_bracket text ≡ false → is_bracketed text ≡ false
no_bracket [] none = refl
no_bracket (b ∷ text) none = elim (cases_Bool (b == 60)) [
  | inl opens ↦
      let hit : is_bracket b ≡ true = ap (λ (x : Bool). x || (b == 62)) opens in
      absurd (true≢false (sym (ap (λ (x : Bool). x || list_any is_bracket text) hit) ∙ none))
  | inr not_open ↦ no_pair (nat_lt 1 (length (b ∷ text))) (b == 60) _ _ not_open
]

not_from : (b : Bool) → not b ≡ true → b ≡ false
not_from true e = sym e
not_from false e = refl

-- the bare text of a value isn't between brackets
bare_by : (value : List ℕ) (b : Bool) → is_bracketed value ≡ b → is_value value ≡ true
    → is_bracketed (trimmed (if b then inner_text value else value)) ≡ false
bare_by value true e is =
    let inner : list_any is_bracket (inner_text value) ≡ false = not_from _ (and_parts _ _ e).1 in
    no_bracket (trimmed (inner_text value)) (none_trimmed is_bracket (inner_text value) inner)
bare_by value false e is = ap is_bracketed (trimmed_value value is) ∙ e

bare_of_plain : (text : List ℕ) → is_bracketed text ≡ false → is_value text ≡ true → bare_text text ≡ text
unfolding bare_text
bare_of_plain text plain is = ap (λ (b : Bool). trimmed (if b then inner_text text else text)) plain ∙ trimmed_value text is

plain : (value : List ℕ) → is_value value ≡ true → is_bracketed (bare_text value) ≡ false
unfolding bare_text
plain value is = bare_by value (is_bracketed value) refl is

pub bare_twice : (value : List ℕ) → is_value value ≡ true → bare_text (bare_text value) ≡ bare_text value
bare_twice value is = bare_of_plain (bare_text value) (plain value is) (bare_is_value value is)

-- Bytes and their escapes.
use Rattle.std.proofs.Common.{◌≡◌, ℕ, ◌<◌, ◌≤◌, ◌/◌, ◌%◌, Bool, true, false, cond, nat_lt, List, [], ◌∷◌, ◌++◌, flat_map, append_assoc, refl, sym, ap, ◌∙◌, arith}
use Rattle.std.specs.Prelude.{IsUtf8}
use Rattle.std.specs.Char.{digit_char}
use Rattle.std.specs.Str.{is_utf8}
use Rattle.std.proofs.lemmas.Bool.{lt-ltb, le-ltb}
use Rattle.std.proofs.lemmas.Grind.{flat_map-append}
use Rattle.std.proofs.lemmas.Str.{IsUtf8-from_is_utf8, is_utf8-from_IsUtf8}
use Rattle.hex.specs.Hex.{encode_lower, encode_with}
use Rattle.json.specs.Print.{escape, escape_byte, escape_letter}

pub plain_byte : (x : ℕ) → escape_letter x ≡ 0 → 32 ≤ x → escape_byte x ≡ x ∷ []
unfolding escape_byte
plain_byte x none wide = rw (none, le-ltb x 32 wide) refl

pub short_byte : (x letter : ℕ) → escape_letter x ≡ letter → 0 < letter → escape_byte x ≡ 92 ∷ letter ∷ []
unfolding escape_byte
short_byte x letter is some = rw (is, lt-ltb 0 letter some) refl

pub control_byte : (x high low : ℕ) → escape_letter x ≡ 0 → x < 32 → high ≡ digit_char (x / 16) → low ≡ digit_char (x % 16)
    → escape_byte x ≡ 92 ∷ 117 ∷ 48 ∷ 48 ∷ high ∷ low ∷ []
unfolding escape_byte
control_byte x high low none small is_high is_low = rw (none, lt-ltb x 32 small, is_high, is_low) refl

false_unless : (b : Bool) → ¬ (b ≡ true) → false ≡ b
false_unless true not = absurd (not refl)
false_unless false not = refl

pub utf8_is : (bytes : List ℕ) → IsUtf8 bytes → true ≡ is_utf8 bytes
utf8_is bytes is = sym (is_utf8-from_IsUtf8 bytes is)

pub utf8_is_not : (bytes : List ℕ) → ¬ (IsUtf8 bytes) → false ≡ is_utf8 bytes
utf8_is_not bytes not = false_unless _ (λ is. not (IsUtf8-from_is_utf8 bytes is))

-- the digits of bytes are those of each
abbrev pub digits_of : ℕ → List ℕ
digits_of b = escape (encode_lower (b ∷ []))

pub digits_each : (bytes : List ℕ) → escape (encode_lower bytes) ≡ flat_map digits_of bytes
unfolding encode_with
digits_each [] = refl
digits_each (b ∷ bs) =
    flat_map-append escape_byte (encode_lower (b ∷ [])) (encode_lower bs) ∙ ap (λ l. digits_of b ++ l) (digits_each bs)

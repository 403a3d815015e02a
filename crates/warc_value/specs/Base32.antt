-- Base32 (RFC 4648, section 6): five bits a character, the first bits first, no padding.
use Rattle.std.specs.Prelude.{ℕ, zero, suc, ◌+◌, ◌*◌, ◌/◌, ◌%◌, ◌^◌, Bool, ◌==◌, List, [], ◌∷◌, length, map, codes, slice_index, position, Option, Some, None, is_some, unwrap_or, if◌then◌else◌}
use Rattle.std.specs.List.{list_all, flat_map}
use Rattle.std.specs.Char.{to_ascii_uppercase}

-- the lowest n bits of a number, the highest of them first
unfoldable pub bits_of : ℕ → ℕ → List ℕ
bits_of zero x = []
bits_of (suc n) x = x / 2 ^ n % 2 ∷ bits_of n x

-- the number that bits write, the highest first
unfoldable pub number_of_bits : List ℕ → ℕ
number_of_bits [] = 0
number_of_bits (bit ∷ bits) = bit * 2 ^ length bits + number_of_bits bits

-- bits five by five, and eight by eight
unfoldable pub fives : List ℕ → List (List ℕ)
fives (a ∷ b ∷ c ∷ d ∷ e ∷ bits) = (a ∷ b ∷ c ∷ d ∷ e ∷ []) ∷ fives bits
fives _ = []

unfoldable pub eights : List ℕ → List (List ℕ)
eights (a ∷ b ∷ c ∷ d ∷ e ∷ f ∷ g ∷ h ∷ bits) = (a ∷ b ∷ c ∷ d ∷ e ∷ f ∷ g ∷ h ∷ []) ∷ eights bits
eights _ = []

-- the characters that mean 0 to 31
abbrev pub alphabet : List ℕ
alphabet = codes "ABCDEFGHIJKLMNOPQRSTUVWXYZ234567"

-- the character that means a number
unfoldable pub symbol_of : ℕ → ℕ
symbol_of n = slice_index alphabet n

-- the number that a character means, in either case
unfoldable pub symbol_value : ℕ → Option ℕ
symbol_value c = position (λ symbol. symbol == to_ascii_uppercase c) alphabet

abbrev pub is_symbol : ℕ → Bool
is_symbol c = is_some (symbol_value c)

-- the text of bytes, whose number is a multiple of five: their bits, five a character
unfoldable pub base32_of : List ℕ → List ℕ
base32_of bytes = map (λ five. symbol_of (number_of_bits five)) (fives (flat_map (bits_of 8) bytes))

-- the bytes of characters, whose number is a multiple of eight: their bits, eight a byte
unfoldable pub bytes_of : List ℕ → List ℕ
bytes_of text = map number_of_bits (eights (flat_map (λ c. bits_of 5 (unwrap_or (symbol_value c) 0)) text))

-- the bytes of characters, if each is a character of base32
abbrev pub decoded_of : List ℕ → Option (List ℕ)
decoded_of text = if list_all is_symbol text then Some (bytes_of text) else None

-- the twenty bytes that a text of 32 characters writes, in either case; no other text writes any
abbrev pub unbase32_of : List ℕ → Option (List ℕ)
unbase32_of text = if length text == 32 then decoded_of text else None

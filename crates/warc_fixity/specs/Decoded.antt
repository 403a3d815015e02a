-- The digest that a value states, by decoding its text. A law says that it is the one that the value states.
use Rattle.std.specs.Prelude.{ℕ, ◌+◌, ◌*◌, ◌/◌, Bool, ◌&&◌, ◌||◌, ◌==◌, nat_le, List, length, take, drop, position, Option, Some, None, option_map, option_and_then, unwrap_or, if◌then◌else◌}
use Rattle.std.specs.List.{list_all, flat_map}
use Rattle.std.specs.Option.{option_or}
use Rattle.std.specs.Result.{result_ok}
use Rattle.hex.specs.Hex.{decode_sized}
use Rattle.warc_value.specs.Base32.{bits_of, number_of_bits, symbol_value, is_symbol, bytes_of}
use Rattle.warc_fixity.specs.declared.names.Algorithm.{Algorithm}
use Rattle.warc_fixity.specs.Stated.{algorithm_of, digest_len, padding_len}

-- the n bytes that a text writes in hexadecimal
abbrev pub from_hex : ℕ → List ℕ → Option (List ℕ)
from_hex n text = result_ok (decode_sized text n)

-- how many characters of base32 write n bytes
abbrev pub symbols_len : ℕ → ℕ
symbols_len n = (8 * n + 4) / 5

-- a text is none or all of the padding of this many characters
abbrev pub is_padding : ℕ → List ℕ → Bool
is_padding len text = (length text == 0 || length text == padding_len len) && list_all (λ b. b == 61) text

-- the first characters of a text, this many, if at most padding follows
abbrev pub without_padding : ℕ → List ℕ → Option (List ℕ)
without_padding len text =
    if nat_le len (length text) && is_padding len (drop len text) then Some (take len text) else None

-- the bits that characters write, five each
abbrev pub bits_in : List ℕ → List ℕ
bits_in symbols = flat_map (λ c. bits_of 5 (unwrap_or (symbol_value c) 0)) symbols

-- the n bytes that characters write, if the bits left over are zero
unfoldable pub from_symbols : ℕ → List ℕ → Option (List ℕ)
from_symbols n symbols =
    if list_all is_symbol symbols && number_of_bits (drop (8 * n) (bits_in symbols)) == 0
    then Some (bytes_of symbols) else None

-- the n bytes that a text writes in base32, with none or all of its padding
abbrev pub from_base32 : ℕ → List ℕ → Option (List ℕ)
from_base32 n text = option_and_then (from_symbols n) (without_padding (symbols_len n) text)

-- the n bytes that a text writes
unfoldable pub decoded : ℕ → List ℕ → Option (List ℕ)
decoded n text = option_or (from_hex n text) (from_base32 n text)

-- the digest of an algorithm that a text writes
abbrev pub stated_in : List ℕ → Algorithm → Option (Algorithm × List ℕ)
stated_in text algorithm = option_map (λ digest. (algorithm, digest)) (decoded (digest_len algorithm) text)

-- the digest that a name and a text state
abbrev pub stated_by : List ℕ → List ℕ → Option (Algorithm × List ℕ)
stated_by name text = option_and_then (stated_in text) (algorithm_of name)

-- the digest that a value with a colon at this place states
abbrev pub stated_around : List ℕ → ℕ → Option (Algorithm × List ℕ)
stated_around value colon = stated_by (take colon value) (drop (colon + 1) value)

-- the digest that a value states, and its algorithm
unfoldable pub stated_digest : List ℕ → Option (Algorithm × List ℕ)
stated_digest value = option_and_then (stated_around value) (position (λ b. b == 58) value)

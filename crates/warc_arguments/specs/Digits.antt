-- The URI that a word names.
use Rattle.std.specs.Prelude.{ℕ, Bool, true, false, List, Option, Some}
use Rattle.std.specs.Result.{result_ok}
use Rattle.hex.specs.Hex.{decode_of}

-- the URI that a word names: as it is, or by two hexadecimal digits for each byte
abbrev pub uri_named : Bool → List ℕ → Option (List ℕ)
uri_named false word = Some word
uri_named true word = result_ok (decode_of word)

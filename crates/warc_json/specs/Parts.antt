-- The parts from which the text of an object is put together: states of the code.
use Rattle.std.specs.Prelude.{ℕ, Bool, List, [], ◌∷◌, ◌++◌, codes, decimal, nat_lt, if◌then◌else◌}
use Rattle.std.specs.List.{enumerate_from, flat_map}
use Rattle.std.specs.Str.{is_utf8}
use Rattle.hex.specs.Hex.{encode_lower}
use Rattle.json.specs.Print.{escape, quoted}
use Rattle.warc_json.specs.Objects.{SeenValue, Null, Number, Text}

abbrev pub hex_text : List ℕ → List ℕ
hex_text bytes = codes "{\"hex\":\"" ++ (escape (encode_lower bytes) ++ codes "\"}")

abbrev pub text_text : List ℕ → List ℕ
text_text text = if is_utf8 text then quoted text else hex_text text

abbrev pub value_text : SeenValue → List ℕ
value_text Null = codes "null"
value_text (Number n) = decimal n
value_text (Text text) = text_text text

-- a comma, unless it is before the first member
abbrev pub comma_if : Bool → List ℕ
comma_if later = if later then codes "," else []

abbrev pub member_text : Bool → List ℕ × SeenValue → List ℕ
member_text later m = comma_if later ++ (quoted m.0 ++ (codes ":" ++ value_text m.1))

-- the texts of members, one after another
abbrev pub members_text : List (List ℕ × SeenValue) → List ℕ
members_text ms = flat_map (λ p. member_text (nat_lt 0 p.0) p.1) (enumerate_from 0 ms)

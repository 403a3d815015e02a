-- Lines of JSON (RFC 8259), an object a line. This project's own form.
use Rattle.std.specs.Prelude.{ℕ, ◌<◌, ◌^◌, ⊤, List, [], ◌∷◌, ◌++◌, codes, decimal, if◌then◌else◌}
use Rattle.std.specs.Borrow.{Bor}
use Rattle.std.specs.Str.{is_utf8}
use Rattle.hex.specs.Hex.{encode_lower}
use Rattle.json.specs.Json as json
use Rattle.json.specs.Print.{print}
use Rattle.json.specs.Tree.{json_tokens}
use Rattle.warc_json.specs.declared.objects.Value.{Value}
use Rattle.warc_json.specs.declared.objects.Value.TheVariants as code

-- what a member holds
pub data SeenValue : Type 0 where
  Null : SeenValue
  Number : ℕ → SeenValue
  Text : List ℕ → SeenValue

-- bytes that aren't UTF-8, as an object: their hexadecimal digits
abbrev pub hex_value : List ℕ → json.Json
hex_value bytes = json.object (json.member (codes "hex") (json.string (encode_lower bytes)) json.no_members)

-- the value as JSON
abbrev pub json_of : SeenValue → json.Json
json_of Null = json.null
json_of (Number n) = json.number (decimal n)
json_of (Text text) = if is_utf8 text then json.string text else hex_value text

-- a number has at most 64 bits
abbrev pub IsWord : SeenValue → Type 0
IsWord Null = ⊤
IsWord (Number n) = n < 2 ^ 64
IsWord (Text text) = ⊤

-- members by their names, in order
abbrev pub json_members : List (List ℕ × SeenValue) → json.Members
json_members [] = json.no_members
json_members (m ∷ ms) = json.member m.0 (json_of m.1) (json_members ms)

-- an object on a line, with no space
abbrev pub object_line : List (List ℕ × SeenValue) → List ℕ
object_line ms = print (json_tokens (json.object (json_members ms))) ++ codes "\n"

-- a value of the code
abbrev pub value_seen : Value → SeenValue
value_seen code.Null = Null
value_seen (code.Number n) = Number n
value_seen (code.Text text) = Text text.now

-- a member of the code
abbrev pub member_seen : Bor (List ℕ) × Value → List ℕ × SeenValue
member_seen m = (m.0.now, value_seen m.1)

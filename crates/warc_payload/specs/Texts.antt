-- What the fields of a response head say of the body's media type (RFC 9110, section 8.3.1) and of its codings.
use Rattle.std.specs.Prelude.{◌≡◌, ℕ, ◌+◌, Bool, ◌&&◌, ◌==◌, nat_lt, List, [], ◌∷◌, ◌++◌, take, drop, find, map, codes, if◌then◌else◌}
use Rattle.std.specs.Char.{to_ascii_lowercase}
use Rattle.std.specs.List.{flat_map, prefix_len}
use Rattle.std.specs.Option.{option_map_or}
use Rattle.std.specs.Str.{str_eq_ignore_ascii_case}
use Rattle.httparse.specs.Grammar.{ResponseHead, is_token_byte}
use Rattle.httparse.specs.Spans.{name_and_value}
use Rattle.warc_payload.specs.Coding.{names_coding}
use Rattle.warc_payload.specs.declared.HeadFault.{HeadFault}
use Rattle.warc_payload.specs.declared.HeadFault.TheVariants.{Bad, Memory}

-- how many bytes of a token a text begins with
abbrev pub token_len : List ℕ → ℕ
token_len text = prefix_len is_token_byte text

-- how long a media type is, by the length of the token at its front and by what follows that: a slash and a token
abbrev pub media_len_by : ℕ → List ℕ → ℕ
media_len_by first [] = 0
media_len_by first (byte ∷ rest) =
    if (byte == 47) && (nat_lt 0 first && nat_lt 0 (token_len rest)) then first + 1 + token_len rest else 0

-- how long the media type is that a value begins with: a token, a slash and a token, each as long as can be; 0 for none
abbrev pub media_len : List ℕ → ℕ
media_len value = media_len_by (token_len value) (drop (token_len value) value)

-- the media type that a value begins with, empty if there is none
abbrev pub media_type : List ℕ → List ℕ
media_type value = take (media_len value) value

-- a field that states the media type, by its name in any case
abbrev pub is_content_type : List ℕ × List ℕ → Bool
is_content_type field = str_eq_ignore_ascii_case field.0 (codes "content-type")

-- the media type that the first such field states, empty if there is none
abbrev pub media_type_in : List (List ℕ × List ℕ) → List ℕ
media_type_in fields = option_map_or (λ f. media_type f.1) (find is_content_type fields) []

-- what is said of a field that names a coding: a space, its name in lower case, `=` and its value
abbrev pub coding_text : List ℕ × List ℕ → List ℕ
coding_text field = codes " " ++ map to_ascii_lowercase field.0 ++ codes "=" ++ field.1

abbrev pub coding_text_if : List ℕ × List ℕ → List ℕ
coding_text_if field = if names_coding field then coding_text field else []

-- what is said of each field that names a coding, in order
abbrev pub codings_in : List (List ℕ × List ℕ) → List ℕ
codings_in fields = flat_map coding_text_if fields

-- the texts are those of the head's fields
pub record AreHeadTexts (head : ResponseHead) (media codings : List ℕ) : Type 0 where
  pub media_is : media ≡ media_type_in (map name_and_value head.fields)
  pub codings_are : codings ≡ codings_in (map name_and_value head.fields)

-- the texts of the faults of reading a head
abbrev pub head_fault_text : HeadFault → List ℕ
head_fault_text Bad = codes "no whole HTTP head"
head_fault_text Memory = codes "out of memory"

-- The field area: the lines of a head between its version line and its empty line, and the fields that they are
-- (WARC 1.1, 4: `named-field = field-name ":" [ field-value ]`). The first bad line is this project's own notion.
use Rattle.std.specs.Prelude.{◌≡◌, ℕ, ◌+◌, ◌<◌, ◌≤◌, Bool, ◌==◌, List, [], ◌∷◌, ◌++◌, length, take, drop, Option, Some, None, Result, Ok, Err, option_and_then, option_map, unwrap_or, find, count_by, position, if◌then◌else◌, true, false}
use Rattle.std.specs.List.{list_all, flat_map}
use Rattle.warc_field.specs.declared.area.AreaFault.{AreaFault}
use Rattle.warc_field.specs.declared.area.AreaFault.TheVariants.{Line, Memory}
use Rattle.warc_field.specs.Text.{same, is_name, is_value_byte, trimmed}
use Rattle.warc_field.specs.Lines.{begins_blank, crlf, lines, unfolded}

-- a name and a value
abbrev pub Pair : Type 0
Pair = List ℕ × List ℕ

-- the value of the first field of a name
abbrev pub first_value : List ℕ → List Pair → Option (List ℕ)
first_value name fields = option_map (λ (field : Pair). field.1) (find (λ (field : Pair). same field.0 name) fields)

-- the value of the first field of a name, empty if no field has the name
abbrev pub value_or_empty : List ℕ → List Pair → List ℕ
value_or_empty name fields = unwrap_or (first_value name fields) []

-- how many fields have a name
abbrev pub count_of : List ℕ → List Pair → ℕ
count_of name fields = count_by (λ (field : Pair). same field.0 name) fields

-- what the rest of a line, after its colon, means: the rest unfolded, then cut at both ends, if no control character
-- but tab is left
pub record MeansValue (rest value : List ℕ) : Type 0 where
  pub text : trimmed (unfolded rest) ≡ value
  pub clean : list_all is_value_byte value ≡ true

-- a field's line: its name, a colon, a rest that means its value, and a CRLF
pub record IsFieldLine (field : Pair) (line : List ℕ) : Type 0 where
  pub rest : List ℕ
  pub name : is_name field.0 ≡ true
  pub value : MeansValue rest field.1
  pub text : line ≡ field.0 ++ 58 ∷ rest ++ crlf

-- the area is a concatenation of lines that spell the fields in order
abbrev pub SpellsFields : List Pair → List ℕ → Type 0
SpellsFields [] area = area ≡ []
SpellsFields (field ∷ fields) area =
    (line more : List ℕ) × IsFieldLine field line × (area ≡ line ++ more) × SpellsFields fields more

-- the first line that is no field, or isn't ended, begins `at` bytes from the area's front: fields spell what comes
-- before it, and what follows isn't empty, begins a line, and doesn't begin with a field's whole line
pub record IsFirstBadLine (area : List ℕ) (at : ℕ) : Type 0 where
  pub fields : List Pair
  pub front : List ℕ
  pub rest : List ℕ
  pub whole : area ≡ front ++ rest
  pub place : at ≡ length front
  pub spelled : SpellsFields fields front
  pub left : 0 < length rest
  pub begins : 0 < length front → begins_blank rest ≡ false
  pub bad : (field : Pair) (line more : List ℕ) → IsFieldLine field line → rest ≡ line ++ more
      → begins_blank more ≡ true

-- the line that a field is written as: name, colon, space, value, CRLF
abbrev pub canonical_line : Pair → List ℕ
canonical_line field = field.0 ++ 58 ∷ 32 ∷ field.1 ++ crlf

-- the area that fields are written as
abbrev pub canonical_fields : List Pair → List ℕ
canonical_fields fields = flat_map canonical_line fields

-- the value that the rest of a line means, if any
unfoldable pub value_of : List ℕ → Option (List ℕ)
value_of rest = let v = trimmed (unfolded rest) in if list_all is_value_byte v then Some v else None

abbrev pub is_colon : ℕ → Bool
is_colon b = b == 58

-- the field that a line is with its first colon at place k
abbrev pub field_at : List ℕ → ℕ → Option Pair
field_at line k =
    if is_name (take k line) then option_map (λ value. (take k line, value)) (value_of (drop (k + 1) line)) else None

-- the field that a line is
unfoldable pub field_of : List ℕ → Option Pair
field_of line = option_and_then (field_at line) (position is_colon line)

abbrev pub with_front : List Pair → Result (List Pair) ℕ → Result (List Pair) ℕ
with_front front (Ok fields) = Ok (front ++ fields)
with_front front (Err at) = Err at

-- a line's field and what the lines after it give
abbrev pub field_then : ℕ → Option Pair → Result (List Pair) ℕ → Result (List Pair) ℕ
field_then at None later = Err at
field_then at (Some field) later = with_front (field ∷ []) later

-- the fields of the lines, the last of which has no end and must be empty, or where the first line begins that is no
-- field or isn't ended; the first line begins at `at`
unfoldable pub fields_of : ℕ → List (List ℕ) → Result (List Pair) ℕ
fields_of at [] = Ok []
fields_of at ([] ∷ []) = Ok []
fields_of at ((b ∷ bs) ∷ []) = Err at
fields_of at (line ∷ next ∷ lines) = field_then at (field_of line) (fields_of (at + length line + 2) (next ∷ lines))

-- the fields that an area is, or where its first line begins that is no field or isn't ended
abbrev pub area_of : List ℕ → Result (List Pair) ℕ
area_of area = fields_of 0 (lines area)

abbrev pub Fails : AreaFault → Result (List Pair) ℕ → Type 0
Fails Memory read = Unit {0}
Fails (Line at) read = read ≡ Err at

-- the answer of a call is what reading gives, unless memory ran out
abbrev pub Reads : {X : Type 0} → (X → List Pair) → Result X AreaFault → Result (List Pair) ℕ → Type 0
Reads view (Ok x) read = read ≡ Ok (view x)
Reads view (Err e) read = Fails e read

-- a fault other than a failed allocation names the area's first bad line
abbrev pub ReportsBadLine : List ℕ → AreaFault → Type 0
ReportsBadLine area Memory = Unit {0}
ReportsBadLine area (Line at) = IsFirstBadLine area at

-- a line's fault is within n bytes
abbrev pub ReportsWithin : ℕ → AreaFault → Type 0
ReportsWithin len Memory = Unit {0}
ReportsWithin len (Line at) = at ≤ len

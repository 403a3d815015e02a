-- The ids of records (ISO 28500:2017, 5.2; UUIDs by RFC 9562, section 4). Bare texts, and when two ids are the same,
-- are this project's own notions: the standard writes ids between < and >, and targets (5.14) with them or without.
use Rattle.std.specs.Prelude.{IsTrue, ◌↔◌, ◌≡◌, ◌≤◌, ◌⊎◌, ℕ, ◌-◌, Bool, true, not, ◌&&◌, ◌||◌, ◌==◌, nat_lt, List, ◌∷◌, length, take, drop, slice_index, Option, Some, None, if◌then◌else◌}
use Rattle.std.specs.List.{list_any}
use Rattle.uuid.specs.Text.{parsed_urn}
use Rattle.warc_field.specs.Text.{is_blank, is_value, trimmed}

-- < or >
abbrev pub is_bracket : ℕ → Bool
is_bracket b = b == 60 || b == 62

-- the text without its first and its last byte
abbrev pub inner_text : List ℕ → List ℕ
inner_text text = take (length text - 2) (drop 1 text)

-- it begins with <, ends with >, and contains no other < or >
abbrev pub is_bracketed : List ℕ → Bool
is_bracketed text =
    nat_lt 1 (length text) && (slice_index text 0 == 60) && (slice_index text (length text - 1) == 62)
    && not (list_any is_bracket (inner_text text))

-- the text without such a pair of brackets, and then without spaces and tabs at its ends
unfoldable pub bare_text : List ℕ → List ℕ
bare_text text = trimmed (if is_bracketed text then inner_text text else text)

-- the bare text of a value is a value, and its own bare text
abbrev pub BareTextsAreValues : Type 0
BareTextsAreValues = (value : List ℕ) → is_value value ≡ true → is_value (bare_text value) ≡ true

abbrev pub BareTextsAreBare : Type 0
BareTextsAreBare = (value : List ℕ) → is_value value ≡ true → bare_text (bare_text value) ≡ bare_text value

-- a bare text holds no more bytes than the text that it is cut from
abbrev pub BareTextsAreNoLonger : Type 0
BareTextsAreNoLonger = (text : List ℕ) → length (bare_text text) ≤ length text

-- < or >, a space or a tab
abbrev pub ends_id : ℕ → Bool
ends_id b = is_bracket b || is_blank b

-- a bare text that is an id: not empty, without bracket, space or tab
unfoldable pub is_bare_id : List ℕ → Bool
is_bare_id bare = not (length bare == 0) && not (list_any ends_id bare)

-- the text holds an id
abbrev pub is_id : List ℕ → Bool
is_id text = is_bare_id (bare_text text)

-- two ids are the same: their bare texts are the same bytes, or both are `urn:uuid:`, in any case, and one UUID
abbrev pub IsSameId : List ℕ → List ℕ → Type 0
IsSameId a b =
    (bare_text a ≡ bare_text b)
    ⊎ ((uuid : List ℕ) × (parsed_urn (bare_text a) ≡ Some uuid) × (parsed_urn (bare_text b) ≡ Some uuid))

-- an id's key: < and the sixteen bytes of its UUID, or else its bare text, which contains no <
abbrev pub key_by : List ℕ → Option (List ℕ) → List ℕ
key_by bare None = bare
key_by bare (Some uuid) = 60 ∷ uuid

abbrev pub key_of : List ℕ → List ℕ
key_of bare = key_by bare (parsed_urn bare)

-- the key of the id that a text holds
abbrev pub id_key : List ℕ → Option (List ℕ)
id_key text = if is_id text then Some (key_of (bare_text text)) else None

-- keys are equal exactly for same ids
abbrev pub KeysAreEqualForSameIds : Type 0
KeysAreEqualForSameIds =
    (a b : List ℕ) → IsTrue (is_id a) → IsTrue (is_id b) → (id_key a ≡ id_key b) ↔ IsSameId a b

-- a key holds no more bytes than the text that it was read from
abbrev pub KeysAreNoLonger : Type 0
KeysAreNoLonger = (text key : List ℕ) → id_key text ≡ Some key → length key ≤ length text

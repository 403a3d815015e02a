-- What a converted head says, that it is good, and that converted twice is converted once.
use Rattle.std.proofs.Common.{◌≡◌, inl, inr, ℕ, ◌+◌, ◌<◌, ◌≤◌, Bool, true, false, ◌==◌, cond, List, [], ◌∷◌}
use Rattle.std.proofs.Common.{◌++◌, length, length-append, take, get_or, find, codes, Option, Some, None}
use Rattle.std.proofs.Common.{is_none, is_some, option_map, Result, Err, if◌then◌else◌, refl, sym, ◌∙◌, ap}
use Rattle.std.proofs.Common.{subst, arith, true≢false}
use Rattle.std.specs.Prelude.{option_and_then, nat_lt, nat_le}
use Rattle.std.specs.Option.{option_or, option_map_or}
use Rattle.std.specs.Str.{str_to_ascii_lowercase, bytes_eq}
use Rattle.std.proofs.lemmas.Bool.{cases_Bool, eqb-true}
use Rattle.std.proofs.lemmas.List.{map-append, take_more}
use Rattle.std.proofs.lemmas.List.Sums.{sum_by-cons}
use Rattle.std.proofs.lemmas.Slice.Eq.{bytes_eq-Decides}
use Rattle.warc_field.specs.Text.{same, is_name, is_value, IsField, AreFields}
use Rattle.warc_field.specs.Lines.{crlf}
use Rattle.warc_field.specs.Area.{Pair, first_value, count_of, canonical_line, canonical_fields}
use Rattle.warc_field.specs.Decimal.{decimal_of}
use Rattle.warc_value.specs.Dates.{instant_of}
use Rattle.warc_value.specs.Digests.{wanted_digest}
use Rattle.warc_value.specs.declared.hash.Wanted.TheVariants.{Unchecked}
use Rattle.warc_frame.specs.declared.version.Version.{Version}
use Rattle.warc_frame.specs.declared.version.Version.TheVariants.{V1_0, V1_1}
use Rattle.warc_frame.specs.VersionLine.{version_line}
use Rattle.warc_frame.specs.declared.fault.Mandatory.{Mandatory}
use Rattle.warc_frame.specs.declared.fault.Mandatory.TheVariants.{«Type», RecordId, Date as DateField, ContentLength}
use Rattle.warc_frame.specs.declared.fault.FaultKind.{FaultKind}
use Rattle.warc_frame.specs.declared.fault.FaultKind.TheVariants.{Missing, Repeated, BadType, Id, Date}
use Rattle.warc_frame.specs.FaultText.{name_of}
use Rattle.warc_frame.specs.Names.{content_length}
use Rattle.warc_frame.specs.Record.{Record, IsFramed, canonical_len, block_len, block_number}
use Rattle.warc_frame.specs.Record.{or_length}
use Rattle.warc_record.specs.declared.types.Kind.TheVariants.{Other}
use Rattle.warc_record.specs.Ids.{bare_text, is_id, id_key}
use Rattle.warc_record.specs.Kinds.{kind_named}
use Rattle.warc_record.specs.Readings.{unless_empty, target_of, both, is_known_profile, segment_number, reading_of}
use Rattle.warc_record.specs.Heads.{count_fault, value_fault, is_date, head_fault}
use Rattle.warc_record.proofs.GoodLemmas.{good_heads_have_no_fault}
use Rattle.warc_write.specs.Conversion.{converted_field, converted_fields, converted, ConversionIsIdempotent}
use Rattle.warc_write.specs.Conversion.{ConvertedSaysTheSame, ConvertedStaysGood}
use Rattle.warc_record.proofs.LawLemmas.{bare_texts_are_bare, bare_texts_are_no_longer, bare_texts_are_values}

abbrev target_name : List ℕ
target_name = codes "WARC-Target-URI"

-- ---- names

-- where one name is the same as a second, it is the same as a third where that is
pub same_goes_on : (a b c : List ℕ) → same a b ≡ true → same a c ≡ same b c
same_goes_on a b c e =
    let lower : str_to_ascii_lowercase a ≡ str_to_ascii_lowercase b = (bytes_eq-Decides (str_to_ascii_lowercase a) (str_to_ascii_lowercase b)).0 e in
    ap (λ (t : List ℕ). bytes_eq t (str_to_ascii_lowercase c)) lower

-- a field under its test
abbrev by_test : Bool → Pair → Pair
by_test b field = if b then (field.0, bare_text field.1) else field

name_stays : (b : Bool) (field : Pair) → (by_test b field).0 ≡ field.0
name_stays true field = refl
name_stays false field = refl

-- the field of another name stays
other_stays : (name : List ℕ) (field : Pair) → same target_name name ≡ false → same field.0 name ≡ true → converted_field field ≡ field
other_stays name field other hit = elim (cases_Bool (same field.0 target_name)) [
  | inr not_target ↦ ap (λ (b : Bool). by_test b field) not_target
  | inl is_target ↦ absurd (true≢false (sym hit ∙ (same_goes_on field.0 target_name name is_target ∙ other)))
]

-- the target's value is its bare text
target_changes : (field : Pair) → same field.0 target_name ≡ true → converted_field field ≡ (field.0, bare_text field.1)
target_changes field is = ap (λ (b : Bool). by_test b field) is

-- ---- the first value of a name, and how many fields have it

abbrev value_in : Option Pair → Option (List ℕ)
value_in found = option_map (λ (field : Pair). field.1) found

pub other_first : (name : List ℕ) (fields : List Pair) → same target_name name ≡ false → first_value name (converted_fields fields) ≡ first_value name fields
other_first name [] other = refl
other_first name (field ∷ fields) other = elim (cases_Bool (same field.0 name)) [
  | inl hit ↦
      let stays : converted_field field ≡ field = other_stays name field other hit in
      ap (λ (f : Pair). first_value name (f ∷ converted_fields fields)) stays
      ∙ (ap (λ (b : Bool). value_in (cond b (Some field) (find (λ (f : Pair). same f.0 name) (converted_fields fields)))) hit
      ∙ sym (ap (λ (b : Bool). value_in (cond b (Some field) (find (λ (f : Pair). same f.0 name) fields))) hit))
  | inr miss ↦
      let still : same (converted_field field).0 name ≡ false = ap (λ (n : List ℕ). same n name) (name_stays (same field.0 target_name) field) ∙ miss in
      ap (λ (b : Bool). value_in (cond b (Some (converted_field field)) (find (λ (f : Pair). same f.0 name) (converted_fields fields)))) still
      ∙ (other_first name fields other
      ∙ sym (ap (λ (b : Bool). value_in (cond b (Some field) (find (λ (f : Pair). same f.0 name) fields))) miss))
]

pub target_first : (fields : List Pair) → first_value target_name (converted_fields fields) ≡ option_map bare_text (first_value target_name fields)
target_first [] = refl
target_first (field ∷ fields) = elim (cases_Bool (same field.0 target_name)) [
  | inl hit ↦
      ap (λ (f : Pair). first_value target_name (f ∷ converted_fields fields)) (target_changes field hit)
      ∙ (ap (λ (b : Bool). value_in (cond b (Some (field.0, bare_text field.1)) (find (λ (f : Pair). same f.0 target_name) (converted_fields fields)))) hit
      ∙ sym (ap (λ (b : Bool). option_map bare_text (value_in (cond b (Some field) (find (λ (f : Pair). same f.0 target_name) fields)))) hit))
  | inr miss ↦
      let stays : converted_field field ≡ field = ap (λ (b : Bool). by_test b field) miss in
      ap (λ (f : Pair). first_value target_name (f ∷ converted_fields fields)) stays
      ∙ (ap (λ (b : Bool). value_in (cond b (Some field) (find (λ (f : Pair). same f.0 target_name) (converted_fields fields)))) miss
      ∙ (target_first fields
      ∙ sym (ap (λ (b : Bool). option_map bare_text (value_in (cond b (Some field) (find (λ (f : Pair). same f.0 target_name) fields)))) miss)))
]

pub count_stays : (name : List ℕ) (fields : List Pair) → count_of name (converted_fields fields) ≡ count_of name fields
count_stays name [] = refl
count_stays name (field ∷ fields) =
    let still : same (converted_field field).0 name ≡ same field.0 name = ap (λ (n : List ℕ). same n name) (name_stays (same field.0 target_name) field) in
    let rest : count_of name (converted_fields fields) ≡ count_of name fields = count_stays name fields in
    let one : Pair → ℕ = λ (f : Pair). cond (same f.0 name) 1 0 in
    sum_by-cons one (converted_field field) (converted_fields fields)
    ∙ (ap (λ (b : Bool). cond b 1 0 + count_of name (converted_fields fields)) still
    ∙ (ap (λ (n : ℕ). cond (same field.0 name) 1 0 + n) rest ∙ sym (sum_by-cons one field fields)))

-- ---- fields stay fields

field_by : (b : Bool) (field : Pair) → IsField field → IsField (by_test b field)
field_by true field is = (is.0, bare_texts_are_values field.1 is.1)
field_by false field is = is

pub fields_stay : (fields : List Pair) → AreFields fields → AreFields (converted_fields fields)
fields_stay [] are = tt
fields_stay (field ∷ fields) are = (field_by (same field.0 target_name) field are.0, fields_stay fields are.1)

-- the value of a name is a value
first_is_value : (name : List ℕ) (fields : List Pair) (value : List ℕ) → AreFields fields → first_value name fields ≡ Some value → is_value value ≡ true
first_is_value name [] value are e = absurd (cc)
first_is_value name (field ∷ fields) value are e = elim (cases_Bool (same field.0 name)) [
  | inl hit ↦
      let here : Some field.1 ≡ Some value = sym (ap (λ (b : Bool). value_in (cond b (Some field) (find (λ (f : Pair). same f.0 name) fields))) hit) ∙ e in
      let is : field.1 ≡ value = (cc) in
      ap is_value (sym is) ∙ are.0.1
  | inr miss ↦ first_is_value name fields value are.1 (sym (ap (λ (b : Bool). value_in (cond b (Some field) (find (λ (f : Pair). same f.0 name) fields))) miss) ∙ e)
]

-- ---- twice is once

twice_by : (field : Pair) (b : Bool) → same field.0 target_name ≡ b → is_value field.1 ≡ true → converted_field (by_test b field) ≡ by_test b field
twice_by field true e is = target_changes (field.0, bare_text field.1) e ∙ ap (λ (v : List ℕ). (field.0, v)) (bare_texts_are_bare field.1 is)
twice_by field false e is = ap (λ (b : Bool). by_test b field) e

twice_fields : (fields : List Pair) → AreFields fields → converted_fields (converted_fields fields) ≡ converted_fields fields
twice_fields [] are = refl
twice_fields (field ∷ fields) are =
    ap (λ (f : Pair). f ∷ converted_fields (converted_fields fields)) (twice_by field (same field.0 target_name) refl are.0.1)
    ∙ ap (λ (fs : List Pair). converted_field field ∷ fs) (twice_fields fields are.1)

pub conversion_is_idempotent : ConversionIsIdempotent
unfolding converted
conversion_is_idempotent r are = λ i. record { version = V1_1; fields = twice_fields r.fields are i; block = r.block }

-- ---- the readings stay

-- the target by its value
abbrev target_by : Option (List ℕ) → Option (List ℕ)
target_by value = option_and_then (λ v. unless_empty (bare_text v)) (option_and_then unless_empty value)

empty_is : (text : List ℕ) → (length text == 0) ≡ true → text ≡ []
empty_is [] e = refl
empty_is (b ∷ text) e = let none : length (b ∷ text) ≡ 0 = eqb-true (length (b ∷ text)) 0 e in absurd (omega arith)

bare_of_empty : bare_text [] ≡ []
unfolding bare_text
bare_of_empty = empty_is (bare_text []) (zero_length (bare_text []) (bare_texts_are_no_longer []))
  where
    zero_length : (text : List ℕ) → length text ≤ 0 → (length text == 0) ≡ true
    zero_length [] le = refl
    zero_length (b ∷ text) le = absurd (omega arith)

target_value : (value : List ℕ) → is_value value ≡ true → target_by (Some (bare_text value)) ≡ target_by (Some value)
target_value value is = elim (cases_Bool (length (bare_text value) == 0)) [
  | inl none ↦ bare_none none
  | inr some ↦ bare_some some
]
  where
    bare_none : (length (bare_text value) == 0) ≡ true → target_by (Some (bare_text value)) ≡ target_by (Some value)
    bare_none none =
        let gone : unless_empty (bare_text value) ≡ None = ap (λ (b : Bool). if b then None else Some (bare_text value)) none in
        ap (option_and_then (λ v. unless_empty (bare_text v))) gone ∙ by_value (length value == 0) gone
      where
        by_value : (b : Bool) → unless_empty (bare_text value) ≡ None → None ≡ option_and_then (λ v. unless_empty (bare_text v)) (if b then None else Some value)
        by_value true gone = refl
        by_value false gone = sym gone

    bare_some : (length (bare_text value) == 0) ≡ false → target_by (Some (bare_text value)) ≡ target_by (Some value)
    bare_some some =
        let there : unless_empty (bare_text value) ≡ Some (bare_text value) = ap (λ (b : Bool). if b then None else Some (bare_text value)) some in
        ap (option_and_then (λ v. unless_empty (bare_text v))) there ∙ (ap unless_empty (bare_texts_are_bare value is) ∙ by_value (length value == 0) refl)
      where
        by_value : (b : Bool) → (length value == 0) ≡ b → unless_empty (bare_text value) ≡ option_and_then (λ v. unless_empty (bare_text v)) (if b then None else Some value)
        by_value false e = refl
        by_value true e =
            let gone : bare_text value ≡ [] = ap bare_text (empty_is value e) ∙ bare_of_empty in
            ap unless_empty gone

target_by_first : (o : Option (List ℕ)) → ((value : List ℕ) → o ≡ Some value → is_value value ≡ true) → target_by (option_map bare_text o) ≡ target_by o
target_by_first None is = refl
target_by_first (Some value) is = target_value value (is value refl)

target_stays : (fields : List Pair) → AreFields fields → target_of (converted_fields fields) ≡ target_of fields
target_stays fields are =
    ap target_by (target_first fields) ∙ target_by_first (first_value target_name fields) (λ value e. first_is_value target_name fields value are e)

-- the first values of the other names stay
abbrev Stays : List ℕ → List Pair → Type 0
Stays name fields = first_value name (converted_fields fields) ≡ first_value name fields

number_stays : (fields : List Pair) → segment_number (converted_fields fields) ≡ segment_number fields
number_stays fields = rw (other_first (codes "WARC-Segment-Number") fields refl) refl

pub reading_stays : (fields : List Pair) → AreFields fields → reading_of (converted_fields fields) ≡ reading_of fields
reading_stays fields are =
    let type : Stays (codes "WARC-Type") fields = other_first (codes "WARC-Type") fields refl in
    let id : Stays (codes "WARC-Record-ID") fields = other_first (codes "WARC-Record-ID") fields refl in
    let date : Stays (codes "WARC-Date") fields = other_first (codes "WARC-Date") fields refl in
    let profile : Stays (codes "WARC-Profile") fields = other_first (codes "WARC-Profile") fields refl in
    let refers : Stays (codes "WARC-Refers-To") fields = other_first (codes "WARC-Refers-To") fields refl in
    let pair_target : Stays (codes "WARC-Refers-To-Target-URI") fields = other_first (codes "WARC-Refers-To-Target-URI") fields refl in
    let pair_date : Stays (codes "WARC-Refers-To-Date") fields = other_first (codes "WARC-Refers-To-Date") fields refl in
    let origin : Stays (codes "WARC-Segment-Origin-ID") fields = other_first (codes "WARC-Segment-Origin-ID") fields refl in
    let total : Stays (codes "WARC-Segment-Total-Length") fields = other_first (codes "WARC-Segment-Total-Length") fields refl in
    let digest : Stays (codes "WARC-Block-Digest") fields = other_first (codes "WARC-Block-Digest") fields refl in
    let payload : Stays (codes "WARC-Payload-Digest") fields = other_first (codes "WARC-Payload-Digest") fields refl in
    let truncated : Stays (codes "WARC-Truncated") fields = other_first (codes "WARC-Truncated") fields refl in
    let number : segment_number (converted_fields fields) ≡ segment_number fields = number_stays fields in
    let target : target_of (converted_fields fields) ≡ target_of fields = target_stays fields are in
    λ i. record {
      kind = option_map_or kind_named (type i) Other;
      type_text = type i;
      id_text = id i;
      date_text = date i;
      id = option_and_then id_key (id i);
      instant = option_and_then instant_of (date i);
      target = target i;
      reference = record {
        known_profile = option_map_or is_known_profile (option_and_then unless_empty (profile i)) false;
        named_id = option_and_then id_key (option_and_then unless_empty (refers i));
        named_pair = both (option_and_then (λ value. unless_empty (bare_text value)) (option_and_then unless_empty (pair_target i)))
            (option_and_then instant_of (option_and_then unless_empty (pair_date i)));
      };
      segment = record {
        number = number i;
        origin = option_and_then id_key (option_and_then unless_empty (origin i));
        total = option_and_then decimal_of (option_and_then unless_empty (total i));
      };
      wanted = option_map_or wanted_digest (option_and_then unless_empty (digest i)) Unchecked;
      payload_digest = option_and_then unless_empty (payload i);
      truncated = is_some (option_and_then unless_empty (truncated i));
    }

pub converted_says_the_same : ConvertedSaysTheSame
unfolding converted
converted_says_the_same r are = reading_stays r.fields are

-- ---- it is good

-- the length of a block, by how many fields tell it and the first value
abbrev length_by : ℕ → Option (List ℕ) → Result ℕ FaultKind
length_by count first =
    if count == 0 then Err (Missing ContentLength) else if nat_le 2 count then Err (Repeated ContentLength) else or_length (block_number first)

block_len_stays : (fields : List Pair) → block_len (converted_fields fields) ≡ block_len fields
unfolding block_len
block_len_stays fields =
    ap (λ (n : ℕ). length_by n (first_value content_length (converted_fields fields))) (count_stays content_length fields)
    ∙ ap (length_by (count_of content_length fields)) (other_first content_length fields refl)

-- the fault of a field, by how many there are and the first value
abbrev fault_by : Mandatory → (List ℕ → Bool) → FaultKind → ℕ → Option (List ℕ) → Option FaultKind
fault_by field reads fault count first =
    option_or (if is_none first then Some (Missing field) else if nat_lt 1 count then Some (Repeated field) else None)
    (if option_map_or reads first false then None else Some fault)

fault_stays : (field : Mandatory) (reads : List ℕ → Bool) (fault : FaultKind) (fields : List Pair) → same target_name (name_of field) ≡ false
    → option_or (count_fault field (converted_fields fields)) (value_fault field reads fault (converted_fields fields))
    ≡ option_or (count_fault field fields) (value_fault field reads fault fields)
fault_stays field reads fault fields other =
    ap (λ (n : ℕ). fault_by field reads fault n (first_value (name_of field) (converted_fields fields))) (count_stays (name_of field) fields)
    ∙ ap (fault_by field reads fault (count_of (name_of field) fields)) (other_first (name_of field) fields other)

head_fault_stays : (fields : List Pair) → head_fault (converted_fields fields) ≡ head_fault fields
head_fault_stays fields =
    let type = fault_stays «Type» is_name BadType fields refl in
    let id = fault_stays RecordId is_id Id fields refl in
    let date = fault_stays DateField is_date Date fields refl in
    λ i. option_or (type i) (option_or (id i) (date i))

line_size : (name value : List ℕ) → length (canonical_line (name, value)) ≡ length name + length value + 4
line_size name value = omega (arith, length-append (name ++ 58 ∷ 32 ∷ value) crlf, length-append name (58 ∷ 32 ∷ value))

line_by : (b : Bool) (field : Pair) → length (canonical_line (by_test b field)) ≤ length (canonical_line field)
line_by true field = omega (arith, bare_texts_are_no_longer field.1, line_size field.0 (bare_text field.1), line_size field.0 field.1)
line_by false field = omega arith

area_is_no_longer : (fields : List Pair) → length (canonical_fields (converted_fields fields)) ≤ length (canonical_fields fields)
area_is_no_longer [] = omega arith
area_is_no_longer (field ∷ fields) =
    omega (
      arith,
      line_by (same field.0 target_name) field,
      area_is_no_longer fields,
      length-append (canonical_line (converted_field field)) (canonical_fields (converted_fields fields)),
      length-append (canonical_line field) (canonical_fields fields),
    )

-- how long a head is that is written canonically
version_size : (version : Version) → length (version_line version) ≡ 10
version_size V1_0 = refl
version_size V1_1 = refl

canonical_size : (version : Version) (fields : List Pair) → canonical_len version fields ≡ length (canonical_fields fields) + 12
unfolding canonical_len
canonical_size version fields =
    let area = canonical_fields fields in
    omega (arith, length-append (version_line version ++ area) crlf, length-append (version_line version) area, version_size version)

pub converted_stays_framed : (r : Record) → IsFramed r → IsFramed (converted r)
unfolding converted
converted_stays_framed r framed = record {
  fields = fields_stay r.fields framed.fields;
  number = block_len_stays r.fields ∙ framed.number;
  head = omega (arith, framed.head, canonical_size V1_1 (converted_fields r.fields), canonical_size r.version r.fields, area_is_no_longer r.fields);
}

pub converted_stays_good : ConvertedStaysGood
unfolding converted
converted_stays_good r good = record {
  framed = converted_stays_framed r good.framed;
  head = (good_heads_have_no_fault (converted_fields r.fields)).1
      (head_fault_stays r.fields ∙ (good_heads_have_no_fault r.fields).0 good.head);
}

-- the converted fields of a longer front
pub converted_more : (fields : List Pair) (i : ℕ) (field : Pair) → i < length fields → field ≡ get_or fields i field
    → converted_fields (take i fields) ++ converted_field field ∷ [] ≡ converted_fields (take (i + 1) fields)
converted_more fields i field lt is =
    ap (λ (f : Pair). converted_fields (take i fields) ++ converted_field f ∷ []) is
    ∙ (sym (map-append converted_field (take i fields) (get_or fields i field ∷ [])) ∙ sym (ap converted_fields (take_more fields i field lt)))

-- the converted record from its parts
pub converted_from : (r : Record) (fields : List Pair) (block : List ℕ) → fields ≡ converted_fields r.fields → block ≡ r.block
    → record { version = V1_1; fields = fields; block = block } ≡ converted r
unfolding converted
converted_from r fields block fields_is block_is = λ i. record { version = V1_1; fields = fields_is i; block = block_is i }

pub parts_are_framed : (r : Record) (fields : List Pair) (block : List ℕ) → IsFramed r → fields ≡ converted_fields r.fields → block ≡ r.block
    → IsFramed (record { version = V1_1; fields = fields; block = block })
parts_are_framed r fields block framed fields_is block_is =
    subst IsFramed (sym (converted_from r fields block fields_is block_is)) (converted_stays_framed r framed)

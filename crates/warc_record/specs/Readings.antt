-- What the fields of a head say (ISO 28500:2017, 5.2 to 5.22). That the first field of a name counts, and an empty
-- one as absent, is this project's own reading.
use Rattle.std.specs.Prelude.{ℕ, Bool, false, ◌==◌, List, [], ◌∷◌, length, codes, Option, Some, None, is_some, option_and_then, if◌then◌else◌}
use Rattle.std.specs.List.{list_any}
use Rattle.std.specs.Option.{option_map_or}
use Rattle.std.specs.Str.{bytes_eq}
use Rattle.warc_field.specs.Area.{Pair, first_value}
use Rattle.warc_field.specs.Decimal.{decimal_of}
use Rattle.warc_value.specs.Dates.{Instant, instant_of}
use Rattle.warc_value.specs.Digests.{wanted_digest}
use Rattle.warc_value.specs.declared.hash.Wanted.{Wanted}
use Rattle.warc_value.specs.declared.hash.Wanted.TheVariants.{Unchecked}
use Rattle.warc_frame.specs.Names.{warc_type, warc_record_id, warc_date, warc_target_uri, warc_refers_to, warc_refers_to_target_uri, warc_refers_to_date, warc_profile, warc_segment_number, warc_segment_origin_id, warc_segment_total_length, warc_block_digest, warc_payload_digest, warc_truncated}
use Rattle.warc_record.specs.declared.types.Kind.{Kind}
use Rattle.warc_record.specs.declared.types.Kind.TheVariants.{Other}
use Rattle.warc_record.specs.declared.readings.SegmentNumber.{SegmentNumber}
use Rattle.warc_record.specs.declared.readings.SegmentNumber.TheVariants.{Absent, Number, Bad}
use Rattle.warc_record.specs.Ids.{bare_text, id_key}
use Rattle.warc_record.specs.Kinds.{kind_named}

-- the text, absent if it is empty
abbrev pub unless_empty : List ℕ → Option (List ℕ)
unless_empty text = if length text == 0 then None else Some text

-- the value of the first field of a name, absent if there is none or if it is empty
abbrev pub present_value : List ℕ → List Pair → Option (List ℕ)
present_value name fields = option_and_then unless_empty (first_value name fields)

-- the bare text of a value, absent if it is empty too, and the bare text of the first field of a name
abbrev pub bare_present : Option (List ℕ) → Option (List ℕ)
bare_present value = option_and_then (λ text. unless_empty (bare_text text)) (option_and_then unless_empty value)

abbrev pub present_bare : List ℕ → List Pair → Option (List ℕ)
present_bare name fields = bare_present (first_value name fields)

-- the key of the id that the value of a field holds, its date's instant, its number
abbrev pub key_in : List ℕ → List Pair → Option (List ℕ)
key_in name fields = option_and_then id_key (present_value name fields)

abbrev pub instant_in : List ℕ → List Pair → Option Instant
instant_in name fields = option_and_then instant_of (present_value name fields)

abbrev pub number_in : List ℕ → List Pair → Option ℕ
number_in name fields = option_and_then decimal_of (present_value name fields)

-- both, if both are there
abbrev pub both : {A B : Type 0} → Option A → Option B → Option (A × B)
both None b = None
both (Some a) None = None
both (Some a) (Some b) = Some (a, b)

abbrev pub kind_of : List Pair → Kind
kind_of fields = option_map_or kind_named (first_value warc_type fields) Other

abbrev pub target_of : List Pair → Option (List ℕ)
target_of fields = present_bare warc_target_uri fields

-- the profiles of revisits (WARC 1.1, 6.7; the older pair is from WARC 1.0)
abbrev pub known_profiles : List (List ℕ)
known_profiles =
    codes "http://netpreserve.org/warc/1.1/revisit/identical-payload-digest"
    ∷ codes "http://netpreserve.org/warc/1.1/revisit/server-not-modified"
    ∷ codes "http://netpreserve.org/warc/1.0/revisit/identical-payload-digest"
    ∷ codes "http://netpreserve.org/warc/1.0/revisit/server-not-modified" ∷ []

abbrev pub is_known_profile : List ℕ → Bool
is_known_profile value = list_any (bytes_eq (bare_text value)) known_profiles

-- what a revisit refers to: whether its profile is known, the id that it names, the target and instant that it names
pub record ReferenceReading : Type 0 where
  pub known_profile : Bool
  pub named_id : Option (List ℕ)
  pub named_pair : Option (List ℕ × Instant)

abbrev pub reference_of : List Pair → ReferenceReading
reference_of fields = record {
  known_profile = option_map_or is_known_profile (present_value warc_profile fields) false;
  named_id = key_in warc_refers_to fields;
  named_pair =
      both (present_bare warc_refers_to_target_uri fields) (instant_in warc_refers_to_date fields);
}

-- no other record is named; a date alone names none
abbrev pub nothing_named : ReferenceReading
nothing_named = record { known_profile = false; named_id = None; named_pair = None }

-- no number, a number, or a value that isn't one
abbrev pub segment_number : List Pair → SegmentNumber
segment_number fields = number_by (present_value warc_segment_number fields)
  where
    number_by : Option (List ℕ) → SegmentNumber
    number_by None = Absent
    number_by (Some value) = option_map_or Number (decimal_of value) Bad

-- which segment of which record it is, and the length of all segments
pub record SegmentReading : Type 0 where
  pub number : SegmentNumber
  pub origin : Option (List ℕ)
  pub total : Option ℕ

abbrev pub segment_reading : List Pair → SegmentReading
segment_reading fields = record {
  number = segment_number fields;
  origin = key_in warc_segment_origin_id fields;
  total = number_in warc_segment_total_length fields;
}

-- nothing is said of segments
abbrev pub no_segment : SegmentReading
no_segment = record { number = Absent; origin = None; total = None }

-- the digest that the block should have
abbrev pub digest_wanted : List Pair → Wanted
digest_wanted fields = option_map_or wanted_digest (present_value warc_block_digest fields) Unchecked

-- all that a head says: the texts of its type, id and date, and the readings
pub record Reading : Type 0 where
  pub kind : Kind
  pub type_text : Option (List ℕ)
  pub id_text : Option (List ℕ)
  pub date_text : Option (List ℕ)
  pub id : Option (List ℕ)
  pub instant : Option Instant
  pub target : Option (List ℕ)
  pub reference : ReferenceReading
  pub segment : SegmentReading
  pub wanted : Wanted
  pub payload_digest : Option (List ℕ)
  pub truncated : Bool

abbrev pub reading_of : List Pair → Reading
reading_of fields = record {
  kind = kind_of fields;
  type_text = first_value warc_type fields;
  id_text = first_value warc_record_id fields;
  date_text = first_value warc_date fields;
  id = option_and_then id_key (first_value warc_record_id fields);
  instant = option_and_then instant_of (first_value warc_date fields);
  target = target_of fields;
  reference = reference_of fields;
  segment = segment_reading fields;
  wanted = digest_wanted fields;
  payload_digest = present_value warc_payload_digest fields;
  truncated = is_some (present_value warc_truncated fields);
}

-- What is found wrong with a record, besides what refuses it: N1 to N11, in the order of their numbers. For N1 to N3
-- the fields are in the order of the table, for N9 in their order in the record. Findings are this project's own: it
-- measures records by ISO 28500:2017, 5 to 7, and by its own field table.
use Rattle.std.specs.Prelude.{ℕ, ◌-◌, Bool, true, false, not, ◌&&◌, ◌||◌, ◌==◌, nat_lt, List, [], ◌∷◌, ◌++◌, length, map, filter, is_some, is_none, Option, Some, None, slice_index, if◌then◌else◌}
use Rattle.std.specs.Option.{option_map_or}
use Rattle.std.specs.Str.{is_utf8, str_eq_ignore_ascii_case}
use Rattle.warc_field.specs.Area.{Pair, count_of}
use Rattle.warc_frame.specs.Names.{content_type, warc_target_uri, warc_profile, warc_segment_origin_id, warc_segment_total_length}
use Rattle.warc_record.specs.declared.types.Kind.{Kind}
use Rattle.warc_record.specs.declared.readings.SegmentNumber.{SegmentNumber as NumberStated}
use Rattle.warc_record.specs.declared.readings.SegmentNumber.TheVariants as stated
use Rattle.warc_record.specs.declared.checks.TableCheck.{TableCheck}
use Rattle.warc_record.specs.declared.checks.TableCheck.TheVariants.{Lacks, HasForbidden, Repeats}
use Rattle.warc_record.specs.declared.checks.Finding.{Finding}
use Rattle.warc_record.specs.declared.checks.Finding.TheVariants as seen
use Rattle.warc_record.specs.declared.finding_sink.PlainFinding.{PlainFinding}
use Rattle.warc_record.specs.declared.finding_sink.PlainFinding.TheVariants as plain
use Rattle.warc_frame.specs.FieldNames.{name_text}
use Rattle.warc_record.specs.Kinds.{is_known, is_revisit, is_continuation}
use Rattle.warc_record.specs.Readings.{present_value, present_bare, Reading, reading_of}
use Rattle.warc_record.specs.Table.{Rule, rules, is_among}

-- a finding, N1 to N12, some with the name of the field that it is about
pub data SeenFinding : Type 0 where
  Absent : List ℕ → SeenFinding
  Forbidden : List ℕ → SeenFinding
  Repeated : List ℕ → SeenFinding
  Digest : SeenFinding
  SegmentNumber : SeenFinding
  IdUsed : SeenFinding
  NoContentType : SeenFinding
  Profile : SeenFinding
  NotUtf8 : List ℕ → SeenFinding
  BareId : SeenFinding
  NoOrigin : SeenFinding
  Empty : SeenFinding

abbrev pub finding_number : SeenFinding → ℕ
finding_number (Absent name) = 1
finding_number (Forbidden name) = 2
finding_number (Repeated name) = 3
finding_number Digest = 4
finding_number SegmentNumber = 5
finding_number IdUsed = 6
finding_number NoContentType = 7
finding_number Profile = 8
finding_number (NotUtf8 name) = 9
finding_number BareId = 10
finding_number NoOrigin = 11
finding_number Empty = 12

-- the name of the field that it is about, if any
abbrev pub finding_field : SeenFinding → Option (List ℕ)
finding_field (Absent name) = Some name
finding_field (Forbidden name) = Some name
finding_field (Repeated name) = Some name
finding_field (NotUtf8 name) = Some name
finding_field found = None

abbrev pub once : SeenFinding → Bool → List SeenFinding
once found holds = if holds then found ∷ [] else []

-- the field isn't absent: a target is absent if its bare text is empty, any other field if its value is
abbrev pub is_present : List ℕ → List Pair → Bool
is_present name fields =
    if str_eq_ignore_ascii_case name warc_target_uri then is_some (present_bare name fields)
    else is_some (present_value name fields)

-- N1: a required field is absent. N2: a forbidden one isn't. N3: a field that may not be repeated is.
abbrev pub is_broken : TableCheck → Kind → List Pair → Rule → Bool
is_broken Lacks kind fields rule = is_among kind rule.required && not (is_present rule.name fields)
is_broken HasForbidden kind fields rule = is_among kind rule.forbidden && is_present rule.name fields
is_broken Repeats kind fields rule = is_known kind && not rule.repeats && nat_lt 1 (count_of rule.name fields)

abbrev pub broken_rule : TableCheck → Rule → SeenFinding
broken_rule Lacks rule = Absent rule.name
broken_rule HasForbidden rule = Forbidden rule.name
broken_rule Repeats rule = Repeated rule.name

abbrev pub by_table : TableCheck → Kind → List Pair → List SeenFinding
by_table check kind fields = map (broken_rule check) (filter (is_broken check kind fields) rules)

-- N5: a segment number that isn't one, or is less than 2 in a continuation, or isn't 1 in another kind; or, in a
-- continuation, a total that isn't a number
abbrev pub is_bad_number : Kind → NumberStated → Bool
is_bad_number kind stated.Absent = false
is_bad_number kind stated.Bad = true
is_bad_number kind (stated.Number number) = if is_continuation kind then nat_lt number 2 else not (number == 1)

abbrev pub is_bad_total : Reading → List Pair → Bool
is_bad_total reading fields =
    is_continuation reading.kind && is_some (present_value warc_segment_total_length fields)
    && is_none reading.segment.total

abbrev pub has_bad_segment : Reading → List Pair → Bool
has_bad_segment reading fields =
    is_known reading.kind && (is_bad_number reading.kind reading.segment.number || is_bad_total reading fields)

-- N7: no content type, although the block isn't empty
abbrev pub lacks_content_type : Kind → List Pair → ℕ → Bool
lacks_content_type kind fields size =
    is_known kind && not (is_continuation kind) && not (size == 0)
    && is_none (present_value content_type fields)

-- N8: a revisit's profile isn't known
abbrev pub has_unknown_profile : Reading → List Pair → Bool
has_unknown_profile reading fields =
    is_revisit reading.kind && is_some (present_value warc_profile fields)
    && not reading.reference.known_profile

-- N9: a value isn't UTF-8; the name is spelled as in the record
abbrev pub is_not_utf8 : Pair → Bool
is_not_utf8 field = not (is_utf8 field.1)

abbrev pub not_utf8 : List Pair → List SeenFinding
not_utf8 fields = map (λ (field : Pair). NotUtf8 field.0) (filter is_not_utf8 fields)

-- N10: the value of the id isn't between < and >
abbrev pub is_in_brackets : List ℕ → Bool
is_in_brackets value = (slice_index value 0 == 60) && (slice_index value (length value - 1) == 62)

abbrev pub has_bare_id : Reading → Bool
has_bare_id reading = option_map_or (λ value. not (is_in_brackets value)) reading.id_text false

-- N11: a continuation's origin holds no id
abbrev pub lacks_origin : Reading → List Pair → Bool
lacks_origin reading fields =
    is_continuation reading.kind && is_some (present_value warc_segment_origin_id fields)
    && is_none reading.segment.origin

-- the findings of a record: N4 if its block's digest is bad, N6 if an earlier record has its id
unfoldable pub findings_by : Reading → List Pair → ℕ → Bool → Bool → List SeenFinding
findings_by reading fields size bad_digest used_id =
    by_table Lacks reading.kind fields
    ++ by_table HasForbidden reading.kind fields
    ++ by_table Repeats reading.kind fields
    ++ once Digest (is_known reading.kind && bad_digest)
    ++ once SegmentNumber (has_bad_segment reading fields)
    ++ once IdUsed used_id
    ++ once NoContentType (lacks_content_type reading.kind fields size)
    ++ once Profile (has_unknown_profile reading fields)
    ++ not_utf8 fields
    ++ once BareId (has_bare_id reading)
    ++ once NoOrigin (lacks_origin reading fields)

unfoldable pub findings_of : List Pair → ℕ → Bool → Bool → List SeenFinding
findings_of fields size bad_digest used_id = findings_by (reading_of fields) fields size bad_digest used_id

-- a finding of the code that holds no text of the record
abbrev pub plain_seen : PlainFinding → SeenFinding
plain_seen (plain.Absent name) = Absent (name_text name)
plain_seen (plain.Forbidden name) = Forbidden (name_text name)
plain_seen (plain.Repeated name) = Repeated (name_text name)
plain_seen plain.Digest = Digest
plain_seen plain.SegmentNumber = SegmentNumber
plain_seen plain.IdUsed = IdUsed
plain_seen plain.NoContentType = NoContentType
plain_seen plain.Profile = Profile
plain_seen plain.BareId = BareId
plain_seen plain.NoOrigin = NoOrigin
plain_seen plain.Empty = Empty

-- a finding of the code
abbrev pub finding_seen : Finding → SeenFinding
finding_seen (seen.Plain found) = plain_seen found
finding_seen (seen.NotUtf8 name) = NotUtf8 name.now

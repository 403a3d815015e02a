-- Values of the definitions, each by computation.
use Rattle.std.proofs.Common.{◌≡◌, List, [], ◌∷◌, ◌++◌, true, false, Some, None, codes, refl}
use Rattle.warc_field.specs.Text.{is_blank, trimmed, is_name, is_name_byte}
use Rattle.warc_field.specs.Decimal.{decimal_of}
use Rattle.warc_field.specs.Area.{Pair}
use Rattle.warc_value.specs.Dates.{instant_of, date_of, date_in, fits, forms}
use Rattle.std.specs.Str.{is_utf8, chars}
use lib.Utf8.{encode}
use Rattle.uuid.specs.Text.{by_index}
use Rattle.warc_frame.specs.declared.fault.FaultKind.TheVariants.{Missing, Repeated, BadType, Id, Date}
use Rattle.warc_frame.specs.declared.fault.Mandatory.TheVariants.{«Type», Date as DateField}
use Rattle.warc_record.specs.declared.types.Kind.TheVariants.{Revisit, Other}
use Rattle.warc_record.specs.declared.readings.SegmentNumber.TheVariants.{Absent, Number, Bad}
use Rattle.warc_record.specs.Kinds.{kind_named}
use Rattle.warc_record.specs.Ids.{bare_text, is_bare_id, id_key}
use Rattle.warc_record.specs.Readings.{target_of, is_known_profile, segment_number}
use Rattle.warc_record.specs.Heads.{head_fault}
use Rattle.warc_record.specs.Table.{rules}
use Rattle.warc_record.specs.Findings.{Forbidden, NotUtf8, IdUsed, NoContentType, BareId, once, findings_by, findings_of}

type_in_capitals : kind_named (codes "REVISIT") ≡ Revisit
type_in_capitals = refl

unknown_type : kind_named (codes "screenshot") ≡ Other
unknown_type = refl

in_brackets : bare_text (codes "< a >") ≡ codes "a"
unfolding bare_text trimmed is_blank
in_brackets = refl

in_two_brackets : bare_text (codes "<<a>>") ≡ codes "<<a>>"
unfolding bare_text trimmed is_blank
in_two_brackets = refl

blanks_round_brackets : bare_text (codes " <a> ") ≡ codes "<a>"
unfolding bare_text trimmed is_blank
blanks_round_brackets = refl

uuid_key : id_key (codes "<URN:UUID:00000000-0000-4000-8000-00000000000A>")
    ≡ Some (60 ∷ 0 ∷ 0 ∷ 0 ∷ 0 ∷ 0 ∷ 0 ∷ 64 ∷ 0 ∷ 128 ∷ 0 ∷ 0 ∷ 0 ∷ 0 ∷ 0 ∷ 0 ∷ 10 ∷ [])
unfolding bare_text trimmed is_blank is_bare_id by_index
uuid_key = refl

other_spelling : id_key (codes "urn:uuid:00000000-0000-4000-8000-00000000000a")
    ≡ id_key (codes "<URN:UUID:00000000-0000-4000-8000-00000000000A>")
unfolding bare_text trimmed is_blank is_bare_id by_index
other_spelling = refl

without_prefix : id_key (codes "00000000-0000-4000-8000-00000000000a") ≡ Some (codes "00000000-0000-4000-8000-00000000000a")
unfolding bare_text trimmed is_blank is_bare_id
without_prefix = refl

no_id : id_key (codes "<>") ≡ None
unfolding bare_text trimmed is_blank is_bare_id
no_id = refl

inner_space : id_key (codes "<a b>") ≡ None
unfolding bare_text trimmed is_blank is_bare_id
inner_space = refl

absent_target : target_of ((codes "warc-target-uri", codes "<>") ∷ []) ≡ None
unfolding bare_text trimmed is_blank
absent_target = refl

first_target : target_of ((codes "WARC-Target-URI", codes "<a>") ∷ (codes "WARC-Target-URI", codes "b") ∷ []) ≡ Some (codes "a")
unfolding bare_text trimmed is_blank
first_target = refl

known_profile : is_known_profile (codes "<http://netpreserve.org/warc/1.0/revisit/server-not-modified>") ≡ true
unfolding bare_text trimmed is_blank
known_profile = refl

unknown_profile : is_known_profile (codes "x") ≡ false
unfolding bare_text trimmed is_blank
unknown_profile = refl

no_number : segment_number ((codes "WARC-Segment-Number", []) ∷ []) ≡ Absent
no_number = refl

bad_number : segment_number ((codes "WARC-Segment-Number", codes "3a") ∷ []) ≡ Bad
unfolding decimal_of
bad_number = refl

third_segment : segment_number ((codes "WARC-Segment-Number", codes "03") ∷ []) ≡ Number 3
unfolding decimal_of
third_segment = refl

-- the fields of a warcinfo
abbrev warcinfo : List Pair
warcinfo =
    (codes "WARC-Type", codes "warcinfo")
    ∷ (codes "WARC-Record-ID", codes "<urn:uuid:00000000-0000-4000-8000-000000000001>")
    ∷ (codes "WARC-Date", codes "2020")
    ∷ (codes "WARC-Target-URI", codes "http://a.example/")
    ∷ []

good_head : head_fault ((codes "WARC-Date", codes "2020") ∷ (codes "warc-record-id", codes "<a>") ∷ (codes "WARC-Type", codes "any") ∷ []) ≡ None
unfolding bare_text trimmed is_blank is_name is_name_byte is_bare_id instant_of date_of fits forms date_in
good_head = refl

bad_date : head_fault ((codes "WARC-Type", codes "metadata") ∷ (codes "WARC-Record-ID", codes "a") ∷ (codes "WARC-Date", codes "x") ∷ []) ≡ Some Date
unfolding bare_text trimmed is_blank is_name is_name_byte is_bare_id instant_of date_of fits forms
bad_date = refl

bad_type_and_no_date : head_fault ((codes "WARC-Type", codes "a b") ∷ (codes "WARC-Record-ID", codes "<>") ∷ []) ≡ Some BadType
unfolding is_name is_name_byte
bad_type_and_no_date = refl

empty_id : head_fault ((codes "WARC-Type", codes "metadata") ∷ (codes "WARC-Record-ID", []) ∷ []) ≡ Some Id
unfolding bare_text trimmed is_blank is_name is_name_byte is_bare_id
empty_id = refl

two_types : head_fault ((codes "WARC-Type", codes "metadata") ∷ (codes "warc-type", codes "metadata") ∷ []) ≡ Some (Repeated «Type»)
two_types = refl

no_date : head_fault ((codes "WARC-Type", codes "metadata") ∷ (codes "WARC-Record-ID", codes "a") ∷ []) ≡ Some (Missing DateField)
unfolding bare_text trimmed is_blank is_name is_name_byte is_bare_id
no_date = refl

first_warcinfo : findings_of warcinfo 3 false false ≡ Forbidden (codes "WARC-Target-URI") ∷ once NoContentType true
unfolding findings_of findings_by rules bare_text trimmed is_blank is_utf8 chars encode
first_warcinfo = refl

second_warcinfo : findings_of warcinfo 3 false true ≡ Forbidden (codes "WARC-Target-URI") ∷ once IdUsed true ++ once NoContentType true
unfolding findings_of findings_by rules bare_text trimmed is_blank is_utf8 chars encode
second_warcinfo = refl

-- a record of an unknown kind: its digest and its number don't matter
unknown_kind : findings_of ((codes "WARC-Type", codes "screenshot") ∷ (codes "WARC-Record-ID", codes "a") ∷ (codes "X", 255 ∷ []) ∷ (codes "WARC-Segment-Number", codes "x") ∷ []) 3 true false
    ≡ NotUtf8 (codes "X") ∷ once BareId true
unfolding findings_of findings_by rules bare_text trimmed is_blank is_utf8 chars encode
unknown_kind = refl

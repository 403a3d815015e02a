-- Worked values of the definitions, each computed, and first faults at the limit of an archive.
use Rattle.std.proofs.Common.{◌≡◌, ℕ, ◌-◌, ◌^◌, List, [], ◌∷◌, ◌++◌, Some, None, Ok, Err, refl, take}
use Rattle.std.specs.Prelude.{codes}
use Rattle.warc_field.specs.Text.{is_blank, is_name, is_name_byte, is_value_byte, trimmed}
use Rattle.warc_field.specs.Lines.{parts, lines, unfolded}
use Rattle.warc_field.specs.Area.{Pair, field_of, value_of, fields_of}
use Rattle.warc_field.specs.Decimal.{decimal_of}
use Rattle.warc_frame.specs.declared.version.Version.TheVariants.{V1_0, V1_1}
use Rattle.warc_frame.specs.declared.fault.FaultKind.TheVariants.{Version, Field, Missing, Repeated, Length, Id, End, Truncated, TooLong}
use Rattle.warc_frame.specs.declared.fault.Mandatory.TheVariants.{ContentLength}
use Rattle.warc_frame.specs.Record.{Record, canonical_len, block_len, framed_of}
use Rattle.warc_frame.specs.Spelling.{Spells, canonical}
use Rattle.warc_frame.specs.Reading.{version_of, empty_line, head_front, head_len, head_of, block_at, record_of, any_fields, fault}
use Rattle.warc_frame.specs.Faults.{within_limit, goes_on, IsFrameFault}
use Rattle.warc_frame.proofs.ReadLemmas.{record-spelled}

-- the record of the documentation's examples: 278 bytes, of which the head has 271
abbrev resource : List ℕ
resource = codes "WARC/1.1\r\nWARC-Type: resource\r\nWARC-Record-ID: <urn:uuid:00000000-0000-4000-8000-000000000001>\r\nWARC-Date: 2020-01-01T00:00:00Z\r\nWARC-Target-URI: http://a.example/x\r\nContent-Type: text/plain\r\nWARC-Block-Digest: sha1:VGMT4NSHA2AWVOR6EVYXQUGCNSONBWE5\r\nContent-Length: 3\r\n\r\nabc\r\n\r\n"

fields : List Pair
fields = (codes "WARC-Type", codes "resource") ∷ (codes "WARC-Record-ID", codes "<urn:uuid:00000000-0000-4000-8000-000000000001>") ∷ (codes "WARC-Date", codes "2020-01-01T00:00:00Z")
    ∷ (codes "WARC-Target-URI", codes "http://a.example/x") ∷ (codes "Content-Type", codes "text/plain") ∷ (codes "WARC-Block-Digest", codes "sha1:VGMT4NSHA2AWVOR6EVYXQUGCNSONBWE5") ∷ (codes "Content-Length", codes "3") ∷ []

abbrev resource_record : Record
resource_record = record { version = V1_1; fields = fields; block = codes "abc" }

one_resource_record : record_of any_fields resource ≡ Ok (resource_record, 278)
unfolding record_of head_of block_at version_of head_len head_front empty_line canonical_len block_len decimal_of fields_of field_of value_of unfolded parts lines is_name is_name_byte is_value_byte trimmed is_blank fields
one_resource_record = refl

its_canonical_text : canonical resource_record ≡ resource
unfolding canonical fields
its_canonical_text = refl

its_canonical_length : canonical_len V1_1 fields ≡ 271
unfolding canonical_len fields
its_canonical_length = refl

-- what follows a record changes nothing

more_after : record_of any_fields (resource ++ codes "W") ≡ Ok (resource_record, 278)
unfolding record_of head_of block_at version_of head_len head_front empty_line canonical_len block_len decimal_of fields_of field_of value_of unfolded parts lines is_name is_name_byte is_value_byte trimmed is_blank fields
more_after = refl

version_1_0 : record_of any_fields (codes "WARC/1.0\r\nContent-Length: 3\r\n\r\nabc\r\n\r\n") ≡ Ok (record { version = V1_0; fields = (codes "Content-Length", codes "3") ∷ []; block = codes "abc" }, 38)
unfolding record_of head_of block_at version_of head_len head_front empty_line canonical_len block_len decimal_of fields_of field_of value_of unfolded parts lines is_name is_name_byte is_value_byte trimmed is_blank
version_1_0 = refl

empty_block : record_of any_fields (codes "WARC/1.1\r\nContent-Length: 0\r\n\r\n\r\n\r\n") ≡ Ok (record { version = V1_1; fields = (codes "Content-Length", codes "0") ∷ []; block = codes "" }, 35)
unfolding record_of head_of block_at version_of head_len head_front empty_line canonical_len block_len decimal_of fields_of field_of value_of unfolded parts lines is_name is_name_byte is_value_byte trimmed is_blank
empty_block = refl

other_spelling : record_of any_fields (codes "WARC/1.1\r\ncontent-LENGTH:\r\n \t0000000000000000000000000000000000000000000000000000000000000000000003  \r\n\r\nabc\r\n\r\n") ≡ Ok (record { version = V1_1; fields = (codes "content-LENGTH", codes "0000000000000000000000000000000000000000000000000000000000000000000003") ∷ []; block = codes "abc" }, 112)
unfolding record_of head_of block_at version_of head_len head_front empty_line canonical_len block_len decimal_of fields_of field_of value_of unfolded parts lines is_name is_name_byte is_value_byte trimmed is_blank
other_spelling = refl

archive_inside_a_block : record_of any_fields (codes "WARC/1.1\r\nContent-Length: 38\r\n\r\nWARC/1.1\r\nContent-Length: 3\r\n\r\nabc\r\n\r\n\r\n\r\n") ≡ Ok (record { version = V1_1; fields = (codes "Content-Length", codes "38") ∷ []; block = codes "WARC/1.1\r\nContent-Length: 3\r\n\r\nabc\r\n\r\n" }, 74)
unfolding record_of head_of block_at version_of head_len head_front empty_line canonical_len block_len decimal_of fields_of field_of value_of unfolded parts lines is_name is_name_byte is_value_byte trimmed is_blank
archive_inside_a_block = refl

-- each refusal

nothing_given : record_of any_fields [] ≡ Err (fault Truncated 0)
unfolding record_of head_of block_at version_of head_len head_front empty_line canonical_len block_len decimal_of fields_of field_of value_of unfolded parts lines is_name is_name_byte is_value_byte trimmed is_blank
nothing_given = refl

version_1_2 : record_of any_fields (codes "WARC/1.2\r\n") ≡ Err (fault Version 0)
unfolding record_of head_of block_at version_of head_len head_front empty_line canonical_len block_len decimal_of fields_of field_of value_of unfolded parts lines is_name is_name_byte is_value_byte trimmed is_blank
version_1_2 = refl

version_0_1 : record_of any_fields (codes "WARC/0.1\r\n") ≡ Err (fault Version 0)
unfolding record_of head_of block_at version_of head_len head_front empty_line canonical_len block_len decimal_of fields_of field_of value_of unfolded parts lines is_name is_name_byte is_value_byte trimmed is_blank
version_0_1 = refl

lower_case_version : record_of any_fields (codes "warc/1.1\r\n") ≡ Err (fault Version 0)
unfolding record_of head_of block_at version_of head_len head_front empty_line canonical_len block_len decimal_of fields_of field_of value_of unfolded parts lines is_name is_name_byte is_value_byte trimmed is_blank
lower_case_version = refl

line_feeds_only : record_of any_fields (codes "WARC/1.1\nWARC-Type: resource\n") ≡ Err (fault Version 0)
unfolding record_of head_of block_at version_of head_len head_front empty_line canonical_len block_len decimal_of fields_of field_of value_of unfolded parts lines is_name is_name_byte is_value_byte trimmed is_blank
line_feeds_only = refl

cut_version_line : record_of any_fields (codes "WARC/1") ≡ Err (fault Truncated 6)
unfolding record_of head_of block_at version_of head_len head_front empty_line canonical_len block_len decimal_of fields_of field_of value_of unfolded parts lines is_name is_name_byte is_value_byte trimmed is_blank
cut_version_line = refl

unfinished_head : record_of any_fields (codes "WARC/1.1\r\nBad Name: x\r\nContent-Length: 3\r\n") ≡ Err (fault Truncated 42)
unfolding record_of head_of block_at version_of head_len head_front empty_line canonical_len block_len decimal_of fields_of field_of value_of unfolded parts lines is_name is_name_byte is_value_byte trimmed is_blank
unfinished_head = refl

no_field : record_of any_fields (codes "WARC/1.1\r\nBad Name: x\r\nContent-Length: 3\r\n\r\nabc\r\n\r\n") ≡ Err (fault Field 10)
unfolding record_of head_of block_at version_of head_len head_front empty_line canonical_len block_len decimal_of fields_of field_of value_of unfolded parts lines is_name is_name_byte is_value_byte trimmed is_blank
no_field = refl

second_line_is_none : record_of any_fields (codes "WARC/1.1\r\nContent-Length: 3a\r\nBad Name: x\r\n\r\nabc\r\n\r\n") ≡ Err (fault Field 30)
unfolding record_of head_of block_at version_of head_len head_front empty_line canonical_len block_len decimal_of fields_of field_of value_of unfolded parts lines is_name is_name_byte is_value_byte trimmed is_blank
second_line_is_none = refl

no_length : record_of any_fields (codes "WARC/1.1\r\nWARC-Type: resource\r\n\r\nabc\r\n\r\n") ≡ Err (fault (Missing ContentLength) 0)
unfolding record_of head_of block_at version_of head_len head_front empty_line canonical_len block_len decimal_of fields_of field_of value_of unfolded parts lines is_name is_name_byte is_value_byte trimmed is_blank
no_length = refl

two_lengths : record_of any_fields (codes "WARC/1.1\r\nContent-Length: 3\r\nCONTENT-LENGTH: 3\r\n\r\nabc\r\n\r\n") ≡ Err (fault (Repeated ContentLength) 0)
unfolding record_of head_of block_at version_of head_len head_front empty_line canonical_len block_len decimal_of fields_of field_of value_of unfolded parts lines is_name is_name_byte is_value_byte trimmed is_blank
two_lengths = refl

length_3a : record_of any_fields (codes "WARC/1.1\r\nContent-Length: 3a\r\n\r\nabc\r\n\r\n") ≡ Err (fault Length 0)
unfolding record_of head_of block_at version_of head_len head_front empty_line canonical_len block_len decimal_of fields_of field_of value_of unfolded parts lines is_name is_name_byte is_value_byte trimmed is_blank
length_3a = refl

length_above_the_greatest : record_of any_fields (codes "WARC/1.1\r\nContent-Length: 1099511627777\r\n\r\nabc\r\n\r\n") ≡ Err (fault Length 0)
unfolding record_of head_of block_at version_of head_len head_front empty_line canonical_len block_len decimal_of fields_of field_of value_of unfolded parts lines is_name is_name_byte is_value_byte trimmed is_blank
length_above_the_greatest = refl

greatest_length : record_of any_fields (codes "WARC/1.1\r\nContent-Length: 1099511627776\r\n\r\nabc\r\n\r\n") ≡ Err (fault Truncated 50)
unfolding record_of head_of block_at version_of head_len head_front empty_line canonical_len block_len decimal_of fields_of field_of value_of unfolded parts lines is_name is_name_byte is_value_byte trimmed is_blank
greatest_length = refl

damaged_closing_bytes : record_of any_fields (take 274 resource ++ codes "\r\n\n\r") ≡ Err (fault End 274)
unfolding record_of head_of block_at version_of head_len head_front empty_line canonical_len block_len decimal_of fields_of field_of value_of unfolded parts lines is_name is_name_byte is_value_byte trimmed is_blank
damaged_closing_bytes = refl

end_after_the_whole_block : record_of any_fields (take 273 resource) ≡ Err (fault Truncated 273)
unfolding record_of head_of block_at version_of head_len head_front empty_line canonical_len block_len decimal_of fields_of field_of value_of unfolded parts lines is_name is_name_byte is_value_byte trimmed is_blank
end_after_the_whole_block = refl

cut_closing_bytes : record_of any_fields (take 277 resource) ≡ Err (fault Truncated 277)
unfolding record_of head_of block_at version_of head_len head_front empty_line canonical_len block_len decimal_of fields_of field_of value_of unfolded parts lines is_name is_name_byte is_value_byte trimmed is_blank
cut_closing_bytes = refl

-- the fault of a judgement comes after the length and before the end

judged_before_end : record_of (λ _. Some Id) (take 274 resource ++ codes "\r\n\n\r") ≡ Err (fault Id 0)
unfolding record_of head_of block_at version_of head_len head_front empty_line canonical_len block_len decimal_of fields_of field_of value_of unfolded parts lines is_name is_name_byte is_value_byte trimmed is_blank
judged_before_end = refl

judged_after_length : record_of (λ _. Some Id) (codes "WARC/1.1\r\nContent-Length: 3a\r\n\r\nabc\r\n\r\n") ≡ Err (fault Length 0)
unfolding record_of head_of block_at version_of head_len head_front empty_line canonical_len block_len decimal_of fields_of field_of value_of unfolded parts lines is_name is_name_byte is_value_byte trimmed is_blank
judged_after_length = refl

length_of_another_block : framed_of (record { version = V1_1; fields = fields; block = codes "ab" }) ≡ Err Length
unfolding framed_of canonical_len block_len decimal_of fields
length_of_another_block = refl

no_fields_at_all : framed_of (record { version = V1_0; fields = []; block = [] }) ≡ Err (Missing ContentLength)
unfolding framed_of canonical_len block_len
no_fields_at_all = refl

resource_spelled : Spells resource_record resource
resource_spelled = (record-spelled any_fields resource resource_record 278 one_resource_record).1

-- a second record that is cut off, and what is none
truncated_second : IsFrameFault 0 (resource ++ codes "W") (fault Truncated 279)
unfolding within_limit goes_on record_of head_of block_at version_of head_len head_front empty_line canonical_len block_len decimal_of fields_of field_of value_of unfolded parts lines is_name is_name_byte is_value_byte trimmed is_blank
truncated_second = record {
  records = resource_record ∷ [];
  found = Some (fault Truncated 279);
  before = record {
    front = resource;
    rest = codes "W";
    text = refl;
    spelled = (resource, [], resource_spelled, refl, refl);
    accepted = (refl, tt);
    fault_is = (λ e. cc, fault Truncated 1, refl, refl);
  };
  is = refl;
}

no_second : IsFrameFault 0 (resource ++ codes "\r\n") (fault Version 278)
unfolding within_limit goes_on record_of head_of block_at version_of head_len head_front empty_line canonical_len block_len decimal_of fields_of field_of value_of unfolded parts lines is_name is_name_byte is_value_byte trimmed is_blank
no_second = record {
  records = resource_record ∷ [];
  found = Some (fault Version 278);
  before = record {
    front = resource;
    rest = codes "\r\n";
    text = refl;
    spelled = (resource, [], resource_spelled, refl, refl);
    accepted = (refl, tt);
    fault_is = (λ e. cc, fault Version 0, refl, refl);
  };
  is = refl;
}

-- a record over the offset where archives end, and a byte there
record_over_the_limit : IsFrameFault (2 ^ 48 - 100) resource (fault TooLong (2 ^ 48))
unfolding within_limit goes_on record_of head_of block_at version_of head_len head_front empty_line canonical_len block_len decimal_of fields_of field_of value_of unfolded parts lines is_name is_name_byte is_value_byte trimmed is_blank
record_over_the_limit = record {
  records = [];
  found = Some (fault Truncated (2 ^ 48));
  before = record {
    front = [];
    rest = take 100 resource;
    text = refl;
    spelled = refl;
    accepted = tt;
    fault_is = (λ e. cc, fault Truncated 100, refl, refl);
  };
  is = refl;
}

byte_at_the_limit : IsFrameFault (2 ^ 48 - 278) (resource ++ codes "x") (fault TooLong (2 ^ 48))
unfolding within_limit goes_on record_of head_of block_at version_of head_len head_front empty_line canonical_len block_len decimal_of fields_of field_of value_of unfolded parts lines is_name is_name_byte is_value_byte trimmed is_blank
byte_at_the_limit = record {
  records = resource_record ∷ [];
  found = None;
  before = record {
    front = resource;
    rest = [];
    text = refl;
    spelled = (resource, [], resource_spelled, refl, refl);
    accepted = (refl, tt);
    fault_is = refl;
  };
  is = refl;
}

-- Worked values: what the definitions compute.
use Rattle.std.proofs.Common.{◌≡◌, true, false, [], ◌∷◌, Some, None, Ok, Err, refl}
use Rattle.std.specs.Prelude.{codes}
use Rattle.warc_field.specs.Text.{is_blank, is_name, is_name_byte, is_value_byte, is_value, trimmed, same}
use Rattle.warc_field.specs.Lines.{parts, lines, unfolded}
use Rattle.warc_field.specs.Area.{MeansValue, field_of, value_of, fields_of, area_of, first_value, count_of, canonical_fields}
use Rattle.warc_field.specs.Decimal.{decimal_of}

-- names
a_name : is_name (codes "WARC-Target-URI") ≡ true
unfolding is_name is_name_byte
a_name = refl

no_empty_name : is_name [] ≡ false
unfolding is_name
no_empty_name = refl

no_space_in_names : is_name (codes "WARC Type") ≡ false
unfolding is_name is_name_byte
no_space_in_names = refl

no_colon_in_names : is_name (codes "a:b") ≡ false
unfolding is_name is_name_byte
no_colon_in_names = refl

ascii_names_only : is_name (195 ∷ 169 ∷ []) ≡ false
unfolding is_name is_name_byte
ascii_names_only = refl

no_delete_in_names : is_name (97 ∷ 127 ∷ []) ≡ false
unfolding is_name is_name_byte
no_delete_in_names = refl

names_in_any_case : same (codes "WARC-Type") (codes "warc-tYPE") ≡ true
names_in_any_case = refl

other_names : same (codes "WARC-Type") (codes "WARC-Date") ≡ false
other_names = refl

-- values
an_empty_value : is_value [] ≡ true
unfolding is_value is_blank
an_empty_value = refl

a_tab_inside : is_value (97 ∷ 9 ∷ 98 ∷ []) ≡ true
unfolding is_value is_value_byte is_blank
a_tab_inside = refl

no_space_at_the_end : is_value (codes "a ") ≡ false
unfolding is_value is_value_byte is_blank
no_space_at_the_end = refl

high_bytes_pass : is_value (255 ∷ 128 ∷ []) ≡ true
unfolding is_value is_value_byte is_blank
high_bytes_pass = refl

no_line_feed : is_value (97 ∷ 10 ∷ 98 ∷ []) ≡ false
unfolding is_value is_value_byte is_blank
no_line_feed = refl

-- what rests mean
a_fold : value_of (codes "a\r\n  b ") ≡ Some (codes "a b")
unfolding value_of unfolded parts is_value_byte trimmed is_blank
a_fold = refl

inner_runs_stay : value_of (codes " a   b") ≡ Some (codes "a   b")
unfolding value_of unfolded parts is_value_byte trimmed is_blank
inner_runs_stay = refl

folds_at_both_ends : value_of (codes " \r\n a\r\n \t\r\n b\r\n ") ≡ Some (codes "a  b")
unfolding value_of unfolded parts is_value_byte trimmed is_blank
folds_at_both_ends = refl

blanks_alone : value_of (codes " \r\n \t ") ≡ Some []
unfolding value_of unfolded parts is_value_byte trimmed is_blank
blanks_alone = refl

no_fold : value_of (codes "a\r\nb") ≡ None
unfolding value_of unfolded parts is_value_byte trimmed is_blank
no_fold = refl

a_bare_line_feed : value_of (codes "a\n b") ≡ None
unfolding value_of unfolded parts is_value_byte trimmed is_blank
a_bare_line_feed = refl

means_a_fold : MeansValue (codes " a\r\n\tb") (codes "a b")
unfolding unfolded parts is_value_byte trimmed is_blank
means_a_fold = record { text = refl; clean = refl }

-- lines and areas
a_blank_line_continues : lines (codes "A: b\r\n \r\nC: d\r\n") ≡ codes "A: b\r\n " ∷ codes "C: d" ∷ [] ∷ []
unfolding lines is_blank
a_blank_line_continues = refl

two_fields : area_of (codes "A: b\r\n c\r\nContent-Length:3\r\n") ≡ Ok ((codes "A", codes "b c") ∷ (codes "Content-Length", codes "3") ∷ [])
unfolding fields_of field_of value_of unfolded parts lines is_name is_name_byte is_value_byte trimmed is_blank
two_fields = refl

no_field : area_of [] ≡ Ok []
unfolding fields_of lines
no_field = refl

bad_second : area_of (codes "A: b\r\nB ad: c\r\nCc: d\r\n") ≡ Err 6
unfolding fields_of field_of value_of unfolded parts lines is_name is_name_byte is_value_byte trimmed is_blank
bad_second = refl

no_colon : area_of (codes "A: b\r\nB\r\n") ≡ Err 6
unfolding fields_of field_of value_of unfolded parts lines is_name is_name_byte is_value_byte trimmed is_blank
no_colon = refl

not_ended : area_of (codes "A: b\r\nC: d") ≡ Err 6
unfolding fields_of field_of value_of unfolded parts lines is_name is_name_byte is_value_byte trimmed is_blank
not_ended = refl

begins_with_a_blank : area_of (codes " A: b\r\n") ≡ Err 0
unfolding fields_of field_of value_of unfolded parts lines is_name is_name_byte is_value_byte trimmed is_blank
begins_with_a_blank = refl

one_resource_record : area_of (codes "WARC-Type: resource\r\nWARC-Record-ID: <urn:uuid:00000000-0000-4000-8000-000000000001>\r\nWARC-Date: 2020-01-01T00:00:00Z\r\nWARC-Target-URI: http://a.example/x\r\nContent-Type: text/plain\r\nWARC-Block-Digest: sha1:VGMT4NSHA2AWVOR6EVYXQUGCNSONBWE5\r\nContent-Length: 3\r\n") ≡ Ok (
    (codes "WARC-Type", codes "resource") ∷ (codes "WARC-Record-ID", codes "<urn:uuid:00000000-0000-4000-8000-000000000001>") ∷ (codes "WARC-Date", codes "2020-01-01T00:00:00Z")
    ∷ (codes "WARC-Target-URI", codes "http://a.example/x") ∷ (codes "Content-Type", codes "text/plain") ∷ (codes "WARC-Block-Digest", codes "sha1:VGMT4NSHA2AWVOR6EVYXQUGCNSONBWE5") ∷ (codes "Content-Length", codes "3") ∷ [])
unfolding fields_of field_of value_of unfolded parts lines is_name is_name_byte is_value_byte trimmed is_blank
one_resource_record = refl

canonical_lines : canonical_fields ((codes "A", codes "b c") ∷ (codes "x-Y", []) ∷ []) ≡ codes "A: b c\r\nx-Y: \r\n"
canonical_lines = refl

first_of_two : first_value (codes "a") ((codes "B", codes "1") ∷ (codes "A", codes "2") ∷ (codes "a", codes "3") ∷ []) ≡ Some (codes "2")
first_of_two = refl

two_of_a_name : count_of (codes "a") ((codes "B", codes "1") ∷ (codes "A", codes "2") ∷ (codes "a", codes "3") ∷ []) ≡ 2
two_of_a_name = refl

-- numbers
leading_zeros : decimal_of (codes "000000000000000000000000000000000000000000000000000000000000000000003") ≡ Some 3
unfolding decimal_of
leading_zeros = refl

no_digits : decimal_of [] ≡ None
unfolding decimal_of
no_digits = refl

no_sign : decimal_of (codes "+3") ≡ None
unfolding decimal_of
no_sign = refl

the_largest : decimal_of (codes "281474976710656") ≡ Some 281474976710656
unfolding decimal_of
the_largest = refl

above_the_largest : decimal_of (codes "281474976710657") ≡ None
unfolding decimal_of
above_the_largest = refl

-- What the definitions give of worked records.
use Rattle.std.proofs.Common.{◌≡◌, ℕ, List, [], ◌∷◌, Ok, refl, codes}
use Rattle.std.specs.Fmt.{digits}
use Rattle.sha1.specs.Sha1.{compress, digest_bytes, first_words, hash_after, rounds, schedule, sha1}
use Rattle.uuid.specs.Text.{by_index}
use Rattle.warc_field.specs.Text.{is_blank, is_name, is_name_byte, is_value, is_value_byte, trimmed}
use Rattle.warc_field.specs.Area.{Pair}
use Rattle.warc_value.specs.Base32.{base32_of, bits_of, bytes_of, eights}
use Rattle.warc_value.specs.Base32.{fives, number_of_bits, symbol_of, symbol_value}
use Rattle.warc_value.specs.Dates.{date_in, date_of, fits, forms, instant_of}
use Rattle.warc_frame.specs.declared.version.Version.TheVariants.{V1_0, V1_1}
use Rattle.warc_frame.specs.Record.{Record, canonical_len}
use Rattle.warc_record.specs.declared.types.Kind.TheVariants.{Resource}
use Rattle.warc_record.specs.Ids.{bare_text, is_bare_id}
use Rattle.warc_write.specs.Conversion.{converted}
use Rattle.warc_write.specs.Making.{made}
use Rattle.warc_write.specs.Splitting.{split_of, splittable, version_5}

-- a target loses its brackets; a field's name counts in any case, and other fields keep their brackets
a_bracketed_target : converted (record {
  version = V1_0;
  fields =
      (codes "warc-target-uri", codes "<http://a.example/x>") ∷ (codes "WARC-Refers-To-Target-URI", codes "<b>") ∷ [];
  block = codes "abc";
}) ≡ record {
  version = V1_1;
  fields =
      (codes "warc-target-uri", codes "http://a.example/x") ∷ (codes "WARC-Refers-To-Target-URI", codes "<b>") ∷ [];
  block = codes "abc";
}
unfolding converted bare_text trimmed is_blank
a_bracketed_target = refl

-- two pairs of brackets stay
two_pairs_of_brackets : converted (record {
  version = V1_0;
  fields = (codes "WARC-Target-URI", codes "<<x>>") ∷ [];
  block = [];
}) ≡ record { version = V1_1; fields = (codes "WARC-Target-URI", codes "<<x>>") ∷ []; block = [] }
unfolding converted bare_text trimmed is_blank
two_pairs_of_brackets = refl

-- the id of a second segment, as Python's `uuid` gives it
second_id : version_5 (0 ∷ 0 ∷ 0 ∷ 0 ∷ 0 ∷ 0 ∷ 64 ∷ 0 ∷ 128 ∷ 0 ∷ 0 ∷ 0 ∷ 0 ∷ 0 ∷ 0 ∷ 1 ∷ []) (codes "2")
    ≡ 236 ∷ 130 ∷ 140 ∷ 43 ∷ 48 ∷ 207 ∷ 88 ∷ 61 ∷ 134 ∷ 96 ∷ 29 ∷ 88 ∷ 117 ∷ 48 ∷ 169 ∷ 126 ∷ []
unfolding sha1 digest_bytes hash_after compress rounds schedule first_words
second_id = refl

abbrev id : List ℕ
id = codes "<urn:uuid:00000000-0000-4000-8000-000000000001>"

abbrev date : List ℕ
date = codes "2020-01-01T00:00:00Z"

abbrev uri : List ℕ
uri = codes "http://a.example/x"

abbrev record_of : List Pair → List ℕ → Record
record_of fields block = record { version = V1_1; fields = fields; block = block }

-- the digests here are those of Python's `hashlib` and `base64`
abbrev one : Record
one = record_of (
    (codes "WARC-Type", codes "resource")
    ∷ (codes "WARC-Record-ID", id)
    ∷ (codes "WARC-Date", date)
    ∷ (codes "WARC-Target-URI", uri)
    ∷ (codes "Content-Type", codes "text/plain")
    ∷ (codes "WARC-Block-Digest", codes "sha1:VGMT4NSHA2AWVOR6EVYXQUGCNSONBWE5")
    ∷ (codes "Content-Length", codes "3")
    ∷ []
    ) (codes "abc")

a_made_record : made (record {
  kind = Resource;
  uri = uri;
  date = date;
  uuid = codes "00000000-0000-4000-8000-000000000001";
  content_type = codes "text/plain";
  block = codes "abc";
}) ≡ Ok one
unfolding sha1 digest_bytes hash_after compress rounds schedule first_words
    made bare_text trimmed is_blank is_value is_value_byte instant_of date_of forms fits date_in by_index
    base32_of fives bits_of number_of_bits symbol_of canonical_len digits
a_made_record = refl

abbrev first : Record
first = record_of (
    (codes "WARC-Type", codes "resource")
    ∷ (codes "WARC-Record-ID", id)
    ∷ (codes "WARC-Date", date)
    ∷ (codes "WARC-Target-URI", uri)
    ∷ (codes "Content-Type", codes "text/plain")
    ∷ (codes "Content-Length", codes "2")
    ∷ (codes "WARC-Segment-Number", codes "1")
    ∷ (codes "WARC-Block-Digest", codes "sha1:3IRWCTQCI2NA27D32G62WXE4I5FRSBG4")
    ∷ []
    ) (codes "ab")

abbrev second : Record
second = record_of (
    (codes "WARC-Type", codes "continuation")
    ∷ (codes "WARC-Record-ID", codes "<urn:uuid:ec828c2b-30cf-583d-8660-1d587530a97e>")
    ∷ (codes "WARC-Date", date)
    ∷ (codes "WARC-Target-URI", uri)
    ∷ (codes "WARC-Segment-Origin-ID", id)
    ∷ (codes "WARC-Segment-Number", codes "2")
    ∷ (codes "WARC-Segment-Total-Length", codes "3")
    ∷ (codes "WARC-Block-Digest", codes "sha1:QSSRNBA3U55FWRSI3YWNBX6LGDVENW5U")
    ∷ (codes "Content-Length", codes "1")
    ∷ []
    ) (codes "c")

split_in_two : split_of one 2 ≡ Ok (first ∷ second ∷ [])
unfolding sha1 digest_bytes hash_after compress rounds schedule first_words
    split_of splittable bare_text trimmed is_blank is_bare_id is_name is_name_byte
    instant_of date_of forms fits date_in by_index
    base32_of bytes_of eights fives bits_of number_of_bits symbol_of symbol_value canonical_len digits
split_in_two = refl

-- Values of the definitions, each by computation: what replays of records answer that are written out.
use Rattle.std.proofs.Common.{◌≡◌, ℕ, true, false, List, [], ◌∷◌, ◌++◌, length, take, drop, Option, Some, None, unwrap_or, Result, Ok, Err, refl, codes, arith}
use Rattle.std.proofs.lemmas.List.Elements.{All-cons, All-nil}
use Rattle.std.proofs.lemmas.List.Sums.{AllPass-from_list_all}
use Rattle.std.specs.Char.{is_ascii_digit}
use Rattle.std.specs.Fmt.{digits}
use Rattle.std.specs.Prelude.{⊤, decimal}
use Rattle.httparse.specs.Grammar.{is_token_byte, is_value_byte, crlf, Field, IsField, ResponseHead, IsResponseHead}
use Rattle.httparse.proofs.OnLiterals.{httparse_on_literals}
use Rattle.jiff.proofs.OnLiterals.{jiff_on_literals}
use Rattle.sha1.specs.Sha1.{sha1, digest_bytes, hash_after, compress, rounds, schedule, first_words}
use Rattle.uuid.specs.Text.{by_index}
use Rattle.warc_field.specs.Area.{Pair}
use Rattle.warc_field.specs.Decimal.{decimal_of}
use Rattle.warc_field.specs.Text.{is_blank, trimmed}
use Rattle.warc_value.specs.Base32.{bytes_of, bits_of, number_of_bits, eights, symbol_value}
use Rattle.warc_value.specs.Dates.{Instant, forms, fits, date_in, date_of, instant_of}
use Rattle.warc_frame.specs.declared.version.Version.TheVariants.{V1_1}
use Rattle.warc_frame.specs.Record.{Record}
use Rattle.warc_record.specs.Ids.{bare_text, is_bare_id}
use Rattle.warc_payload.specs.Head.{BeginsWithHead}
use Rattle.warc_payload.specs.Payload.{GivesBody, GivesCodedBody}
use Rattle.warc_index.specs.declared.unfound.Unfound.TheVariants.{NotYet, NoReference, Unresolved}
use Rattle.warc_segment.specs.declared.gap.Gap.TheVariants.{Unfinished, Absent}
use Rattle.warc_answer.specs.Answers.{Given, IsAnswer, IsAnswerOn, path_for}
use Rattle.warc_answer.specs.ReasonText.{reason_text}
use Rattle.warc_answer.specs.declared.answer.Reason.{Reason}
use Rattle.warc_answer.specs.declared.answer.Reason.TheVariants.{NotFound, Segments, BadDigest, Coded}

-- what the values below unfold
unfoldable on_literals : ⊤
unfolding jiff_on_literals httparse_on_literals by_index sha1 digest_bytes hash_after compress rounds schedule first_words is_blank trimmed decimal_of forms fits date_in date_of instant_of bytes_of bits_of number_of_bits eights symbol_value bare_text is_bare_id IsAnswerOn path_for digits
on_literals = tt

-- the id that ends in a digit
abbrev id_of : List ℕ → List ℕ
id_of digit = codes "<urn:uuid:00000000-0000-4000-8000-00000000000" ++ digit ++ codes ">"

abbrev row : List ℕ → List ℕ → List ℕ → List ℕ → List Pair → List ℕ → Record
row kind digit date target extras block = record {
  version = V1_1;
  fields = (codes "WARC-Type", kind) ∷ (codes "WARC-Record-ID", id_of digit) ∷ (codes "WARC-Date", date)
      ∷ (codes "WARC-Target-URI", target) ∷ extras ++ (codes "Content-Length", decimal (length block)) ∷ [];
  block = block;
}

abbrev a_target : List ℕ
a_target = codes "http://a.example/x"

abbrev b_target : List ℕ
b_target = codes "http://b.example/"

abbrev identical : Pair
identical = (codes "WARC-Profile", codes "http://netpreserve.org/warc/1.1/revisit/identical-payload-digest")

-- the moment that a date names
abbrev as_of : List ℕ → Instant
as_of date = unwrap_or (instant_of date) (0, 0)

abbrev gives : ℕ → ℕ → Option ℕ → List ℕ → Result Given Reason
gives chosen given status body = Ok (record {
  answer = record { chosen = chosen; given = given; status = status; truncated = false; length = length body };
  body = body;
})

-- a response of 33 bytes
abbrev response_block : List ℕ
response_block = codes "HTTP/1.1 200 OK\r\nServer: a\r\n\r\nabc"

abbrev response_type : Pair
response_type = (codes "Content-Type", codes "application/http; msgtype=response")

abbrev stored_response : List Pair → Record
stored_response extras = row (codes "response") (codes "a") (codes "2020-01-01T00:00:00Z") a_target (response_type ∷ extras) response_block

-- a revisit of the target with a known profile
abbrev revisit : List ℕ → List ℕ → List ℕ → List Pair → Record
revisit digit date target extras = row (codes "revisit") digit date target (identical ∷ extras) []

abbrev refers_to : List ℕ → Pair
refers_to id = (codes "WARC-Refers-To", id)

-- segments
abbrev segment_number : List ℕ → Pair
segment_number digits = (codes "WARC-Segment-Number", digits)

abbrev segment_total : List ℕ → Pair
segment_total digits = (codes "WARC-Segment-Total-Length", digits)

abbrev origin_is : List ℕ → Pair
origin_is digit = (codes "WARC-Segment-Origin-ID", id_of digit)

-- the head of `HTTP/1.1 200 OK` with one field
abbrev field : List ℕ → List ℕ → Field
field name raw = record { name = name; raw = raw; end = crlf }

abbrev head_with : Field → ResponseHead
head_with f = record {
  blank = [];
  minor = 1;
  digits = codes "200";
  reason = Some (codes "OK");
  line_end = crlf;
  fields = f ∷ [];
  last = crlf;
}

is_head : (f : Field) → IsField f → IsResponseHead (head_with f)
is_head f is = record {
  minor = omega arith;
  digits = (refl, AllPass-from_list_all is_ascii_digit (codes "200") refl);
  reason = AllPass-from_list_all is_value_byte (codes "OK") refl;
  fields = All-cons IsField f [] is (All-nil IsField);
}

server : IsField (field (codes "Server") (codes " a"))
unfolding httparse_on_literals
server = record {
  name = (omega arith, AllPass-from_list_all is_token_byte (codes "Server") refl);
  raw = AllPass-from_list_all is_value_byte (codes " a") refl;
}

chunked : IsField (field (codes "transfer-encoding") (codes " chunked"))
unfolding httparse_on_literals
chunked = record {
  name = (omega arith, AllPass-from_list_all is_token_byte (codes "transfer-encoding") refl);
  raw = AllPass-from_list_all is_value_byte (codes " chunked") refl;
}

begins_block : BeginsWithHead response_block (head_with (field (codes "Server") (codes " a"))) (codes "abc")
unfolding on_literals
begins_block = record { reads = (is_head (field (codes "Server") (codes " a")) server, refl); size = omega arith; lines = omega arith }

gives_body : GivesBody response_block 200 (codes "abc")
unfolding on_literals
gives_body = (head_with (field (codes "Server") (codes " a")), begins_block, refl, refl)

abbrev coded_block : List ℕ
coded_block = codes "HTTP/1.1 200 OK\r\ntransfer-encoding: chunked\r\n\r\nabc"

gives_coded : GivesCodedBody coded_block
unfolding on_literals
gives_coded = (
  head_with (field (codes "transfer-encoding") (codes " chunked")),
  codes "abc",
  record { reads = (is_head (field (codes "transfer-encoding") (codes " chunked")) chunked, refl); size = omega arith; lines = omega arith },
  refl,
)

-- a response
response : IsAnswer (stored_response [] ∷ []) a_target (as_of (codes "2020")) (gives 0 0 (Some 200) (codes "abc"))
unfolding on_literals
response = (Ok (record { status = Some 200; bytes = codes "abc" }), (200, refl, gives_body), refl)

coded_response : IsAnswer (row (codes "response") (codes "a") (codes "2020") a_target (response_type ∷ []) coded_block ∷ []) a_target (as_of (codes "2020")) (Err Coded)
unfolding on_literals
coded_response = (Err Coded, gives_coded, refl)

-- whose target isn't of the web
other_scheme : IsAnswer (row (codes "response") (codes "a") (codes "2020") (codes "ftp://a.example/x") (response_type ∷ []) response_block ∷ [])
    (codes "ftp://a.example/x") (as_of (codes "2020")) (gives 0 0 None response_block)
unfolding on_literals
other_scheme = (_, refl, refl)

-- a revisit by id, and by target and date
abbrev by_id : List Record
by_id = stored_response [] ∷ revisit (codes "2") (codes "2021") b_target (refers_to (codes "<URN:UUID:00000000-0000-4000-8000-00000000000A>") ∷ []) ∷ []

revisit_by_id : IsAnswer by_id b_target (as_of (codes "2021")) (gives 1 0 (Some 200) (codes "abc"))
unfolding on_literals
revisit_by_id = (Ok (record { status = Some 200; bytes = codes "abc" }), (200, refl, gives_body), refl)

revisit_not_yet : IsAnswer by_id b_target (as_of (codes "2020")) (Err (NotFound NotYet))
unfolding on_literals
revisit_not_yet = refl

revisit_by_pair : IsAnswer (stored_response []
    ∷ revisit (codes "2") (codes "2021") b_target ((codes "WARC-Refers-To-Target-URI", a_target) ∷ (codes "WARC-Refers-To-Date", codes "2020-01-01") ∷ []) ∷ [])
    b_target (as_of (codes "2021")) (gives 1 0 (Some 200) (codes "abc"))
unfolding on_literals
revisit_by_pair = (Ok (record { status = Some 200; bytes = codes "abc" }), (200, refl, gives_body), refl)

-- ---- a response in two segments

abbrev first_part : Record
first_part = row (codes "response") (codes "a") (codes "2020") a_target (response_type ∷ segment_number (codes "1") ∷ []) (take 20 response_block)

abbrev last_part : List Pair → Record
last_part extras =
    row (codes "continuation") (codes "2") (codes "2020") a_target (origin_is (codes "a") ∷ segment_number (codes "2") ∷ segment_total (codes "33") ∷ extras) (drop 20 response_block)

two_segments : IsAnswer (first_part ∷ last_part [] ∷ []) a_target (as_of (codes "2020")) (gives 0 0 (Some 200) (codes "abc"))
unfolding on_literals
two_segments = (Ok (record { status = Some 200; bytes = codes "abc" }), (200, refl, gives_body), refl)

marked_as_truncated : IsAnswer (first_part ∷ last_part ((codes "WARC-Truncated", codes "length") ∷ []) ∷ []) a_target (as_of (codes "2020"))
    (Ok (record { answer = record { chosen = 0; given = 0; status = Some 200; truncated = true; length = 3 }; body = codes "abc" }))
unfolding on_literals
marked_as_truncated = (Ok (record { status = Some 200; bytes = codes "abc" }), (200, refl, gives_body), refl)

bad_digest : IsAnswer (first_part ∷ last_part ((codes "WARC-Block-Digest", codes "sha1:3I42H3S6NNFQ2MSVX7XZKYAYSCX5QBYJ") ∷ []) ∷ []) a_target (as_of (codes "2020")) (Err BadDigest)
unfolding on_literals
bad_digest = (_, refl, refl)

unfinished : IsAnswer (first_part ∷ []) a_target (as_of (codes "2020")) (Err (Segments Unfinished))
unfolding on_literals
unfinished = (_, refl, refl)

-- ---- a revisit that names nothing

abbrev digest : List ℕ → Pair
digest value = (codes "WARC-Payload-Digest", value)

abbrev same_payload : Pair
same_payload = digest (codes "sha1:VGMT4NSHA2AWVOR6EVYXQUGCNSONBWE5")

abbrev nameless : List ℕ → List Pair → Record
nameless date extras = revisit (codes "2") date a_target extras

nothing_named : IsAnswer (stored_response (same_payload ∷ []) ∷ nameless (codes "2021") (same_payload ∷ []) ∷ []) a_target (as_of (codes "2021")) (gives 1 0 (Some 200) (codes "abc"))
unfolding on_literals
nothing_named = (Ok (record { status = Some 200; bytes = codes "abc" }), (200, refl, gives_body), refl)

other_digest : IsAnswer (stored_response (same_payload ∷ []) ∷ nameless (codes "2021") (digest (codes "sha1:VGMT4NSHA2AWVOR6EVYXQUGCNSONBWE6") ∷ []) ∷ []) a_target (as_of (codes "2021")) (Err (NotFound NoReference))
unfolding on_literals
other_digest = refl

digest_in_lower_case : IsAnswer (stored_response (same_payload ∷ []) ∷ nameless (codes "2021") (digest (codes "sha1:vgmt4nsha2awvor6evyxqugcnsonbwe5") ∷ []) ∷ []) a_target (as_of (codes "2021")) (Err (NotFound NoReference))
unfolding on_literals
digest_in_lower_case = refl

no_digest : IsAnswer (stored_response (same_payload ∷ []) ∷ nameless (codes "2021") [] ∷ []) a_target (as_of (codes "2021")) (Err (NotFound NoReference))
unfolding on_literals
no_digest = refl

before_the_response : IsAnswer (stored_response (same_payload ∷ []) ∷ nameless (codes "2019") (same_payload ∷ []) ∷ []) a_target (as_of (codes "2019")) (Err (NotFound NoReference))
unfolding on_literals
before_the_response = refl

abbrev later_block : List ℕ
later_block = codes "HTTP/1.1 200 OK\r\nServer: a\r\n\r\nxyz"

gives_later : GivesBody later_block 200 (codes "xyz")
unfolding on_literals
gives_later = (
  head_with (field (codes "Server") (codes " a")),
  record { reads = (is_head (field (codes "Server") (codes " a")) server, refl); size = omega arith; lines = omega arith },
  refl,
  refl,
)

latest_candidate : IsAnswer (stored_response (same_payload ∷ [])
    ∷ row (codes "response") (codes "3") (codes "2020-01-01T00:00:00Z") a_target (response_type ∷ same_payload ∷ []) later_block
    ∷ nameless (codes "2021") (same_payload ∷ []) ∷ []) a_target (as_of (codes "2021")) (gives 2 1 (Some 200) (codes "xyz"))
unfolding on_literals
latest_candidate = (Ok (record { status = Some 200; bytes = codes "xyz" }), (200, refl, gives_later), refl)

revisit_first : IsAnswer (nameless (codes "2021") (same_payload ∷ []) ∷ stored_response (same_payload ∷ []) ∷ []) a_target (as_of (codes "2021")) (gives 0 1 (Some 200) (codes "abc"))
unfolding on_literals
revisit_first = (Ok (record { status = Some 200; bytes = codes "abc" }), (200, refl, gives_body), refl)

also_names_absent_id : IsAnswer (stored_response (same_payload ∷ []) ∷ nameless (codes "2021") (same_payload ∷ refers_to (id_of (codes "9")) ∷ []) ∷ []) a_target (as_of (codes "2021")) (Err (NotFound Unresolved))
unfolding on_literals
also_names_absent_id = refl

-- ---- texts

not_yet_text : reason_text (NotFound NotYet) ≡ codes "P2 NotYet"
not_yet_text = refl

segment_text : reason_text (Segments (Absent 2)) ≡ codes "P7 Segment G4 Absent 2"
unfolding on_literals
segment_text = refl

coded_text : reason_text Coded ≡ codes "P10 Coded"
coded_text = refl

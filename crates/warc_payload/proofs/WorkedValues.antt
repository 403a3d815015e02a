-- Values of the definitions, each by computation.
use Rattle.std.proofs.Common.{◌≡◌, List, [], ◌∷◌, ℕ, true, false, Some, codes, refl}
use Rattle.httparse.specs.Grammar.{ResponseHead, Field, crlf, is_token_byte, print_response, status_code, trim_ows}
use Rattle.warc_payload.specs.Coding.{names_coding, names_transfer_coding, is_coded, is_transfer_coded}
use Rattle.warc_payload.specs.Texts.{codings_in, media_type, media_type_in}

chunked : names_coding (codes "transfer-encoding", codes "chunked") ≡ true
chunked = refl

capital_identity : names_coding (codes "Transfer-Encoding", codes "IDENTITY") ≡ false
capital_identity = refl

empty_value : names_coding (codes "Content-Encoding", []) ≡ false
empty_value = refl

other_field : names_coding (codes "Server", codes "gzip") ≡ false
other_field = refl

-- the head of `HTTP/1.1 200 OK` with one field
abbrev example : List ℕ → List ℕ → ResponseHead
example name raw = record {
  blank = [];
  minor = 1;
  digits = codes "200";
  reason = Some (codes "OK");
  line_end = crlf;
  fields = (let field : Field = record { name = name; raw = raw; end = crlf } in field ∷ []);
  last = crlf;
}

example_printed : print_response (example (codes "Server") (codes " a")) ≡ codes "HTTP/1.1 200 OK\r\nServer: a\r\n\r\n"
unfolding print_response
example_printed = refl

example_status : status_code (example (codes "Server") (codes " a")) ≡ 200
example_status = refl

example_plain : is_coded (example (codes "Server") (codes " gzip")) ≡ false
example_plain = refl

example_coded : is_coded (example (codes "content-ENCODING") (codes "\t gzip ")) ≡ true
unfolding trim_ows
example_coded = refl

example_identity : is_coded (example (codes "Transfer-Encoding") (codes " identity\t")) ≡ false
unfolding trim_ows
example_identity = refl

-- a content coding is no transfer coding
transfer_chunked : names_transfer_coding (codes "Transfer-encoding", codes "chunked") ≡ true
transfer_chunked = refl

content_gzip : names_transfer_coding (codes "content-encoding", codes "gzip") ≡ false
content_gzip = refl

example_transfer : is_transfer_coded (example (codes "TRANSFER-Encoding") (codes " chunked ")) ≡ true
unfolding trim_ows
example_transfer = refl

example_content : is_transfer_coded (example (codes "Content-Encoding") (codes " gzip")) ≡ false
unfolding trim_ows
example_content = refl

-- media types: what follows doesn't matter
html_type : media_type (codes "text/html; charset=utf-8") ≡ codes "text/html"
unfolding is_token_byte
html_type = refl

capital_type : media_type (codes "Text/HTML,x") ≡ codes "Text/HTML"
unfolding is_token_byte
capital_type = refl

no_subtype : media_type (codes "text/") ≡ []
unfolding is_token_byte
no_subtype = refl

no_slash : media_type (codes "text") ≡ []
unfolding is_token_byte
no_slash = refl

no_type : media_type (codes "/html") ≡ []
unfolding is_token_byte
no_type = refl

double_slash : media_type (codes "text//html") ≡ []
unfolding is_token_byte
double_slash = refl

-- the first field counts, whatever it states
first_type : media_type_in ((codes "Content-type", codes "x") ∷ (codes "Content-Type", codes "a/b") ∷ []) ≡ []
unfolding is_token_byte
first_type = refl

-- the codings of a head
two_codings : codings_in ((codes "Transfer-Encoding", codes "chunked") ∷ (codes "Server", codes "a") ∷ (codes "content-encoding", codes "gzip") ∷ []) ≡ codes " transfer-encoding=chunked content-encoding=gzip"
two_codings = refl

no_codings : codings_in ((codes "Content-Encoding", codes "identity") ∷ []) ≡ []
no_codings = refl

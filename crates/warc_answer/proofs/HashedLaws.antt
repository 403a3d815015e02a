-- Laws of payloads: there is one, and it is what is stored.
use Rattle.std.proofs.Common.{◌≡◌, inl, inr, ℕ, Bool, true, false, List, [], drop, Option, Some, None, Result, Ok, Err, slice_get, MatchBool, refl, sym, ap, subst, ◌∙◌}
use Rattle.std.specs.List.{list_any}
use Rattle.httparse.specs.Grammar.{ResponseHead}
use Rattle.warc_field.specs.Area.{Pair}
use Rattle.warc_frame.specs.Record.{Record}
use Rattle.warc_index.specs.declared.unfound.Unfound.{Unfound}
use Rattle.warc_payload.specs.Coding.{is_transfer_coded}
use Rattle.warc_payload.specs.Laws.{AtMostOneHead, OneOfThree}
use Rattle.warc_record.specs.Readings.{reading_of}
use Rattle.warc_segment.specs.Joined.{ReadRecord}
use Rattle.warc_segment.specs.declared.gap.Gap.{Gap}
use Rattle.warc_answer.specs.Hashed.{EndsAtOnePayload, HasOnePayload, HasPayload, IsPayloadAt, IsPayloadBy, IsPayloadIn, IsPayloadOn, IsStoredPayload, PayloadIsStored, StoredPayload}
use Rattle.warc_answer.specs.Laws.{EndsInside}
use Rattle.warc_answer.specs.Payloads.{has_bad_block, is_http_response, whole_block}
use Rattle.warc_answer.specs.Stored.{IsStoredBy, IsStoredIn, StoredBody, joined_text, joined_to}
use Rattle.warc_answer.specs.declared.answer.Path.{Path}
use Rattle.warc_answer.specs.declared.answer.Reason.{Reason as Why}
use Rattle.warc_answer.specs.declared.answer.Reason.TheVariants.{NotFound, Segments, BadDigest, BadHead, Coded}
use Rattle.warc_answer.proofs.AnswerLemmas.{is_present_below}
use Rattle.warc_answer.proofs.StoredLemmas.{text_there}

-- ---- one payload

-- all that is after a head, as it is stored
abbrev following : ResponseHead → List ℕ → Option StoredPayload
following head rest = Some (record { coded = is_transfer_coded head; bytes = rest })

block_once : AtMostOneHead → (http : Bool) (block : List ℕ) (a b : Option StoredPayload) → HasPayload http block a
    → HasPayload http block b → a ≡ b
block_once one true block (Some p) (Some q) x y =
    let same = one block x.0 y.0 p.bytes q.bytes x.1 y.1 in
    let coded : p.coded ≡ q.coded = x.2 ∙ (ap is_transfer_coded same.0 ∙ sym y.2) in
    λ i. Some (record { coded = coded i; bytes = same.1 i })
block_once one true block (Some p) None x y = absurd (y x.0 p.bytes x.1)
block_once one true block None (Some q) x y = absurd (x y.0 q.bytes y.1)
block_once one true block None None x y = refl
block_once one false block (Some p) (Some q) x y =
    let coded : p.coded ≡ q.coded = x.1 ∙ sym y.1 in
    let bytes : p.bytes ≡ q.bytes = x.0 ∙ sym y.0 in
    λ i. Some (record { coded = coded i; bytes = bytes i })
block_once one false block None b x y = absurd x
block_once one false block (Some p) None x y = absurd y

block_some : OneOfThree → (http : Bool) (block : List ℕ) → (payload : Option StoredPayload) × HasPayload http block payload
block_some three false block = (Some (record { coded = false; bytes = block }), (refl, refl))
block_some three true block = elim (three block) [
  | inl body ↦ let head = body.2.0 in (following head body.1, (head, body.2.1, refl))
  | inr other ↦ elim other [
    | inl coded ↦ (following coded.0 coded.1, (coded.0, coded.2, refl))
    | inr none ↦ (None, none)
  ]
]

pub has_one_payload : AtMostOneHead → OneOfThree → HasOnePayload
has_one_payload one three http block =
    let some = block_some three http block in
    (some.0, some.1, λ other is. block_once one http block some.0 other some.1 is)

-- ---- on a path

in_once : AtMostOneHead → (bad http : Bool) (block : List ℕ) (a b : Option StoredPayload) → IsPayloadIn bad http block a
    → IsPayloadIn bad http block b → a ≡ b
in_once one true http block a b x y = x ∙ sym y
in_once one false http block a b x y = block_once one http block a b x y

in_some : OneOfThree → (bad http : Bool) (block : List ℕ) → (payload : Option StoredPayload) × IsPayloadIn bad http block payload
in_some three true http block = (None, refl)
in_some three false http block = block_some three http block

by_once : AtMostOneHead → (content : Record) (joined : Result (List ReadRecord) Gap) (a b : Option StoredPayload)
    → IsPayloadBy content joined a → IsPayloadBy content joined b → a ≡ b
by_once one content (Err gap) a b x y = x ∙ sym y
by_once one content (Ok joined) a b x y =
    in_once one (list_any has_bad_block joined) (is_http_response (reading_of content.fields)) (whole_block joined) a b x y

by_some : OneOfThree → (content : Record) (joined : Result (List ReadRecord) Gap)
    → (payload : Option StoredPayload) × IsPayloadBy content joined payload
by_some three content (Err gap) = (None, refl)
by_some three content (Ok joined) =
    in_some three (list_any has_bad_block joined) (is_http_response (reading_of content.fields)) (whole_block joined)

-- two records at one position are the same
one_there : (records : List Record) (position : ℕ) (a b : Record) → slice_get records position ≡ Some a
    → slice_get records position ≡ Some b → a ≡ b
one_there records position a b x y = let e : Some a ≡ Some b = sym x ∙ y in cc

at_once : AtMostOneHead → (records : List Record) (position : ℕ) (a b : Option StoredPayload)
    → IsPayloadAt records position a → IsPayloadAt records position b → a ≡ b
at_once one records position a b x y =
    let same : y.content ≡ x.content = one_there records position y.content x.content y.there x.there in
    let P : Record → Type 0 = λ r. IsPayloadBy r (joined_to records r) b in
    by_once one x.content (joined_to records x.content) a b x.is (subst P same y.is)

on_once : AtMostOneHead → (records : List Record) (found : Result Path Unfound) (a b : Option StoredPayload)
    → IsPayloadOn records found a → IsPayloadOn records found b → a ≡ b
on_once one records (Err why) a b x y = x ∙ sym y
on_once one records (Ok path) a b x y = at_once one records path.given a b x y

on_some : OneOfThree → (records : List Record) (found : Result Path Unfound) → EndsInside records found
    → (payload : Option StoredPayload) × IsPayloadOn records found payload
on_some three records (Err why) within = (None, refl)
on_some three records (Ok path) within =
    let there = is_present_below records path.given (within path refl) in
    let some = by_some three there.0 (joined_to records there.0) in
    (some.0, record { content = there.0; there = there.1; is = some.1 })

pub ends_at_one_payload : AtMostOneHead → OneOfThree → EndsAtOnePayload
ends_at_one_payload one three records found within =
    let some = on_some three records found within in
    (some.0, some.1, λ other is. on_once one records found some.0 other some.1 is)

-- ---- the payload is what is stored

stored_in_block : AtMostOneHead → (http : Bool) (fields : List Pair) (block : List ℕ) (stored : Result StoredBody Why)
    (payload : Option StoredPayload) → IsStoredIn http fields block stored → HasPayload http block payload
    → IsStoredPayload block stored payload
stored_in_block one true fields block (Ok s) (Some p) is has =
    (p, refl, (one block has.0 is.head p.bytes (drop s.head_len block) has.1 is.front).1)
stored_in_block one true fields block (Ok s) None is has = absurd (has is.head (drop s.head_len block) is.front)
stored_in_block one false fields block (Ok s) (Some p) is has =
    (p, refl, has.0 ∙ ap (λ n. drop n block) (sym is.head_len_is))
stored_in_block one false fields block (Ok s) None is has = absurd has
stored_in_block one true fields block (Err BadHead) (Some p) is has = absurd (is has.0 p.bytes has.1)
stored_in_block one true fields block (Err BadHead) None is has = refl
stored_in_block one false fields block (Err BadHead) payload is has = absurd is
stored_in_block one http fields block (Err BadDigest) payload is has = absurd is
stored_in_block one http fields block (Err Coded) payload is has = absurd is
stored_in_block one http fields block (Err (NotFound unfound)) payload is has = absurd is
stored_in_block one http fields block (Err (Segments gap)) payload is has = absurd is

nothing_stored : (block : List ℕ) (why : Why) (stored : Result StoredBody Why) (payload : Option StoredPayload)
    → stored ≡ Err why → payload ≡ None → IsStoredPayload block stored payload
nothing_stored block why (Ok s) payload is none = absurd (cc is)
nothing_stored block why (Err other) payload is none = none

stored_in : AtMostOneHead → (bad http : Bool) (Rest : Type 0) (fields : List Pair) (block : List ℕ)
    (stored : Result StoredBody Why) (payload : Option StoredPayload)
    → MatchBool bad (stored ≡ Err BadDigest) (IsStoredIn http fields block stored × Rest)
    → IsPayloadIn bad http block payload → IsStoredPayload block stored payload
stored_in one true http Rest fields block stored payload is has = nothing_stored block BadDigest stored payload is has
stored_in one false http Rest fields block stored payload is has = stored_in_block one http fields block stored payload is.0 has

stored_by : AtMostOneHead → (content : Record) (joined : Result (List ReadRecord) Gap) (stored : Result StoredBody Why)
    (payload : Option StoredPayload) → IsStoredBy content joined stored → IsPayloadBy content joined payload
    → IsStoredPayload (joined_text joined) stored payload
stored_by one content (Err gap) stored payload is has = nothing_stored [] (Segments gap) stored payload is has
stored_by one content (Ok joined) stored payload is has =
    stored_in one (list_any has_bad_block joined) (is_http_response (reading_of content.fields)) _ content.fields
    (whole_block joined) stored payload is has

pub payload_is_stored : AtMostOneHead → PayloadIsStored
payload_is_stored one records (Err unfound) stored payload is has =
    nothing_stored [] (NotFound unfound) stored payload is has
payload_is_stored one records (Ok path) stored payload is has =
    let same : has.content ≡ is.content = one_there records path.given has.content is.content has.there is.there in
    let P : Record → Type 0 = λ r. IsPayloadBy r (joined_to records r) payload in
    let Q : List ℕ → Type 0 = λ block. IsStoredPayload block stored payload in
    subst Q (text_there records path.given is.content is.there)
    (stored_by one is.content (joined_to records is.content) stored payload is.is (subst P same has.is))

-- An origin has one payload, and no other.
use Rattle.std.proofs.Common.{◌≡◌, inl, inr, ℕ, Bool, true, false, List, Some, None, Result, Ok, Err, MatchBool, refl, sym, ◌∙◌, ap}
use Rattle.std.specs.List.{list_any}
use Rattle.warc_payload.specs.Laws.{AtMostOneBody, NoBodyWhereCoded, OneOfThree}
use Rattle.warc_payload.specs.Payload.{GivesBody}
use Rattle.warc_segment.specs.Joined.{ReadRecord}
use Rattle.warc_segment.specs.declared.gap.Gap.{Gap}
use Rattle.warc_answer.specs.Payloads.{whole_block, has_bad_block, is_http_response, Payload, IsAfterHead, IsPayload}
use Rattle.warc_answer.specs.declared.answer.Reason.{Reason}
use Rattle.warc_answer.specs.declared.answer.Reason.TheVariants.{NotFound, Segments, BadDigest, BadHead, Coded}

same_payload : AtMostOneBody → (block : List ℕ) (a b : Payload) (x y : ℕ) → a.status ≡ Some x → b.status ≡ Some y
    → GivesBody block x a.bytes → GivesBody block y b.bytes → a ≡ b
same_payload once block a b x y e f g h =
    let same = once block x y a.bytes b.bytes g h in
    let status : a.status ≡ b.status = e ∙ (ap Some same.0 ∙ sym f) in
    λ i. record { status = status i; bytes = same.1 i }

-- after an HTTP head there is one thing
head_once : AtMostOneBody → NoBodyWhereCoded → (block : List ℕ) (a b : Result Payload Reason) → IsAfterHead block a
    → IsAfterHead block b → a ≡ b
head_once once coded block (Ok a) (Ok b) x y = ap Ok (same_payload once block a b x.0 y.0 x.1 y.1 x.2 y.2)
head_once once coded block (Ok a) (Err Coded) x y = absurd (coded block x.0 a.bytes x.2 y)
head_once once coded block (Ok a) (Err BadHead) x y = absurd (y x.2.0 a.bytes x.2.1)
head_once once coded block (Ok a) (Err BadDigest) x y = absurd y
head_once once coded block (Ok a) (Err (NotFound unfound)) x y = absurd y
head_once once coded block (Ok a) (Err (Segments gap)) x y = absurd y
head_once once coded block (Err Coded) (Ok b) x y = absurd (coded block y.0 b.bytes y.2 x)
head_once once coded block (Err Coded) (Err Coded) x y = refl
head_once once coded block (Err Coded) (Err BadHead) x y = absurd (y x.0 x.1 x.2)
head_once once coded block (Err Coded) (Err BadDigest) x y = absurd y
head_once once coded block (Err Coded) (Err (NotFound unfound)) x y = absurd y
head_once once coded block (Err Coded) (Err (Segments gap)) x y = absurd y
head_once once coded block (Err BadHead) (Ok b) x y = absurd (x y.2.0 b.bytes y.2.1)
head_once once coded block (Err BadHead) (Err Coded) x y = absurd (x y.0 y.1 y.2)
head_once once coded block (Err BadHead) (Err BadHead) x y = refl
head_once once coded block (Err BadHead) (Err BadDigest) x y = absurd y
head_once once coded block (Err BadHead) (Err (NotFound unfound)) x y = absurd y
head_once once coded block (Err BadHead) (Err (Segments gap)) x y = absurd y
head_once once coded block (Err BadDigest) b x y = absurd x
head_once once coded block (Err (NotFound unfound)) b x y = absurd x
head_once once coded block (Err (Segments gap)) b x y = absurd x

head_some : OneOfThree → (block : List ℕ) → (payload : Result Payload Reason) × IsAfterHead block payload
head_some three block = elim (three block) [
  | inl w ↦ (Ok (record { status = Some w.0; bytes = w.1 }), (w.0, refl, w.2))
  | inr (inl coded) ↦ (Err Coded, coded)
  | inr (inr none) ↦ (Err BadHead, none)
]

-- a payload that is a reason where a digest is bad, else as the head or the block says
abbrev ByTests : Bool → Bool → List ℕ → Result Payload Reason → Result Payload Reason → Type 0
ByTests bad http block whole payload =
    MatchBool bad (payload ≡ Err BadDigest) (MatchBool http (IsAfterHead block payload) (payload ≡ whole))

tests_once : AtMostOneBody → NoBodyWhereCoded → (bad http : Bool) (block : List ℕ) (whole a b : Result Payload Reason)
    → ByTests bad http block whole a → ByTests bad http block whole b → a ≡ b
tests_once once coded true http block whole a b x y = x ∙ sym y
tests_once once coded false true block whole a b x y = head_once once coded block a b x y
tests_once once coded false false block whole a b x y = x ∙ sym y

tests_some : OneOfThree → (bad http : Bool) (block : List ℕ) (whole : Result Payload Reason)
    → (payload : Result Payload Reason) × ByTests bad http block whole payload
tests_some three true http block whole = (Err BadDigest, refl)
tests_some three false true block whole = head_some three block
tests_some three false false block whole = (whole, refl)

abbrev whole_of : List ReadRecord → Result Payload Reason
whole_of joined = Ok (record { status = None; bytes = whole_block joined })

pub payload_once : AtMostOneBody → NoBodyWhereCoded → (origin : ReadRecord) (joined : Result (List ReadRecord) Gap)
    (a b : Result Payload Reason) → IsPayload origin joined a → IsPayload origin joined b → a ≡ b
payload_once once coded origin (Err gap) a b x y = x ∙ sym y
payload_once once coded origin (Ok joined) a b x y =
    tests_once once coded (list_any has_bad_block joined) (is_http_response origin.head) (whole_block joined)
    (whole_of joined) a b x y

pub payload_some : OneOfThree → (origin : ReadRecord) (joined : Result (List ReadRecord) Gap)
    → (payload : Result Payload Reason) × IsPayload origin joined payload
payload_some three origin (Err gap) = (Err (Segments gap), refl)
payload_some three origin (Ok joined) =
    tests_some three (list_any has_bad_block joined) (is_http_response origin.head) (whole_block joined)
    (whole_of joined)

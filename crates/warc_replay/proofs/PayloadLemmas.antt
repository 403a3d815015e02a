-- Digests of payloads that are known, and the verdict on the payload in a record's block.
use Rattle.std.proofs.Common.{◌≡◌, inl, inr, ℕ, ◌≤◌, Bool, List, [], ◌∷◌, ◌++◌, length, take, drop, Option, sym, ap, subst, ◌∙◌, arith}
use Rattle.std.specs.List.{slice_get}
use Rattle.warc_field.specs.Area.{Pair}
use Rattle.warc_frame.specs.Effects.{ReadsOnly, ReadsRange}
use Rattle.warc_frame.specs.Record.{Record}
use Rattle.warc_frame.specs.Seen.{IsInRange, SeenSource}
use Rattle.warc_frame.proofs.EffectLemmas.{reads_both, reads_within}
use Rattle.warc_record.specs.Readings.{reading_of}
use Rattle.warc_fixity.specs.Judged.{stated_verdict}
use Rattle.warc_fixity.specs.declared.names.Algorithm.{Algorithm}
use Rattle.warc_answer.specs.Hashed.{HasOnePayload, HasPayload, IsDigestOf, StoredPayload}
use Rattle.warc_answer.specs.Payloads.{is_http_response}
use Rattle.warc_answer.specs.declared.hashed.PayloadDigest.{PayloadDigest}
use Rattle.warc_reading.specs.Placing.{IsInRow}
use Rattle.warc_reading.specs.Rereading.{HasTextOf, ReadsHeads, row_len}
use Rattle.warc_reading.specs.Row.{Row}
use Rattle.warc_reading.proofs.ReadLemmas.{reads_block_of, reads_head_of}
use Rattle.warc_judged.specs.Fixity.{digest_value, stated_on}
use Rattle.warc_replay.specs.PayloadStates.{AreKnown, IsOriginDigest, algorithm_for}
use Rattle.warc_replay.specs.PayloadVerdicts.{IsOwnVerdict, payload_verdict}
use Rattle.warc_replay.specs.declared.record.digests.Known.{Known}
use Rattle.warc_replay.specs.declared.record.payload.PayloadVerdict.{PayloadVerdict}
use Rattle.warc_replay.proofs.CaptureLemmas.{appended}

-- one more digest is known
pub known_more : (records : List Record) (known knows : List Known) (one : Known) → knows ≡ known ++ one ∷ [] → AreKnown records known → IsOriginDigest records one.origin one.algorithm one.digest
    → AreKnown records knows
known_more records known knows one is are has = λ i k there.
    elim (appended known one i k (sym (ap (λ l. slice_get l i) is) ∙ there)) [
      | inl before ↦ are i k before
      | inr last ↦ subst (λ (x : Known). IsOriginDigest records x.origin x.algorithm x.digest) (sym last.1) has
    ]

-- ---- the block of a row's record

-- its bytes
pub block_here : (row : Row) (bytes : List ℕ) (is : HasTextOf row bytes) (start len : ℕ) → start ≡ row.block_start → len ≡ row.block_len → take len (drop start bytes) ≡ is.placed.content.block
block_here row bytes is start len start_is len_is =
    let begin : start ≡ is.placed.block_start = start_is ∙ ap (λ (r : Row). r.block_start) is.row_is in
    let size : len ≡ length is.placed.content.block = len_is ∙ ap (λ (r : Row). r.block_len) is.row_is in
    ap (λ n. take n (drop start bytes)) size ∙ ap (λ n. take (length is.placed.content.block) (drop n bytes)) begin ∙ is.written.block

-- the verdict on it by the digest that is stated
pub block_stated : (row : Row) (bytes : List ℕ) (is : HasTextOf row bytes) (start len : ℕ) (value : List ℕ) (fields : List Pair) → start ≡ row.block_start → len ≡ row.block_len → value ≡ digest_value fields
    → fields ≡ is.placed.content.fields → stated_verdict value (take len (drop start bytes)) ≡ stated_on is.placed
block_stated row bytes is start len value fields start_is len_is value_is fields_are =
    ap (stated_verdict value) (block_here row bytes is start len start_is len_is) ∙ ap (λ v. stated_verdict v is.placed.content.block) (value_is ∙ ap digest_value fields_are)

-- no other byte than those of its head and its block is read
pub reads_stated : (row : Row) (start len : ℕ) {old mid new : SeenSource} → start ≡ row.block_start → len ≡ row.block_len → row.offset ≤ row.block_start → ReadsHeads (row ∷ []) old mid
    → ReadsRange start len mid new → ReadsOnly (IsInRow row) (row_len row) old new
reads_stated row start len {old} {mid} {new} start_is len_is order head block =
    let here : ReadsOnly (IsInRange row.block_start row.block_len) row.block_len mid new =
    reads_within (λ q in_. (omega (arith, in_.0, start_is), omega (arith, in_.1, start_is, len_is))) (omega (arith, len_is)) block in
    reads_both (reads_head_of row head) (reads_block_of row row.block_len order here)

-- the verdict on the payload in it, by the digest of that payload
pub own_made : (content : Record) (fields : List Pair) (http : Bool) (block : List ℕ) (by : Algorithm) (digest : Option PayloadDigest) (verdict : PayloadVerdict) → fields ≡ content.fields
    → http ≡ is_http_response (reading_of content.fields) → block ≡ content.block → by ≡ algorithm_for fields
    → ((payload : Option StoredPayload) → IsDigestOf (algorithm_for fields) payload digest → verdict ≡ payload_verdict fields payload)
    → ((payload : Option StoredPayload) × HasPayload http block payload × IsDigestOf by payload digest) → IsOwnVerdict content verdict
own_made content fields http block by digest verdict same http_is block_is by_is law (payload, has, of) = (
  payload,
  subst (λ b. HasPayload b content.block payload) http_is (subst (λ t. HasPayload http t payload) block_is has),
  law payload (subst (λ a. IsDigestOf a payload digest) by_is of) ∙ ap (λ f. payload_verdict f payload) same,
)

-- the verdict on the payload in a record's own block, if no payload matters
pub own_early : HasOnePayload → (content : Record) (fields : List Pair) (verdict : PayloadVerdict) → fields ≡ content.fields
    → ((payload : Option StoredPayload) → verdict ≡ payload_verdict fields payload) → IsOwnVerdict content verdict
own_early one content fields verdict same law =
    let (payload, has, only) = one (is_http_response (reading_of content.fields)) content.block in
    (payload, has, law payload ∙ ap (λ f. payload_verdict f payload) same)

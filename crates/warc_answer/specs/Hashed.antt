-- The payload of a record as it is stored, and its digest, with which a `WARC-Payload-Digest` is compared (ISO
-- 28500:2017, 5.9, which leaves open which bytes of a coded response are meant). This project's own notion.
use Rattle.std.specs.Prelude.{◌≡◌, ℕ, Bool, false, List, [], drop, slice_get, Option, Some, None, Result, Ok, Err, ⊤}
use Rattle.std.specs.Bool.{MatchBool}
use Rattle.std.specs.List.{list_any}
use Rattle.httparse.specs.Grammar.{ResponseHead}
use Rattle.warc_fixity.specs.declared.names.Algorithm.{Algorithm}
use Rattle.warc_fixity.specs.Judged.{digest_seen}
use Rattle.warc_fixity.specs.Stated.{block_hash}
use Rattle.warc_frame.specs.Record.{Record}
use Rattle.warc_payload.specs.Coding.{is_transfer_coded}
use Rattle.warc_payload.specs.Head.{BeginsWithHead, HasNoHead}
use Rattle.warc_record.specs.Readings.{reading_of}
use Rattle.warc_index.specs.declared.unfound.Unfound.{Unfound}
use Rattle.warc_segment.specs.Joined.{ReadRecord}
use Rattle.warc_segment.specs.declared.gap.Gap.{Gap}
use Rattle.warc_answer.specs.Laws.{EndsInside}
use Rattle.warc_answer.specs.Payloads.{has_bad_block, is_http_response, whole_block}
use Rattle.warc_answer.specs.Stored.{IsStoredOn, StoredBody, joined_text_at, joined_to}
use Rattle.warc_answer.specs.declared.answer.Path.{Path}
use Rattle.warc_answer.specs.declared.answer.Reason.{Reason}
use Rattle.warc_answer.specs.declared.hashed.PayloadDigest.{PayloadDigest}

-- a payload as it is stored, and whether a field says that a transfer coding was applied
pub record StoredPayload : Type 0 where
  pub coded : Bool
  pub bytes : List ℕ

-- the payload in the joined blocks of an HTTP response or of another record; none where a response has no HTTP head
abbrev pub HasPayload : Bool → List ℕ → Option StoredPayload → Type 0
HasPayload http block (Some p) = MatchBool http
    ((head : ResponseHead) × BeginsWithHead block head p.bytes × (p.coded ≡ is_transfer_coded head))
    ((p.bytes ≡ block) × (p.coded ≡ false))
HasPayload http block None = MatchBool http (HasNoHead block) ⊥

-- the payload in the joined blocks of an HTTP response or of another record; none if one of the blocks is bad
abbrev pub IsPayloadIn : Bool → Bool → List ℕ → Option StoredPayload → Type 0
IsPayloadIn bad http block payload = MatchBool bad (payload ≡ None) (HasPayload http block payload)

-- the payload of an origin, by the records that are joined to it or their gap
abbrev pub IsPayloadBy : Record → Result (List ReadRecord) Gap → Option StoredPayload → Type 0
IsPayloadBy content (Err gap) payload = payload ≡ None
IsPayloadBy content (Ok joined) payload = IsPayloadIn (list_any has_bad_block joined)
    (is_http_response (reading_of content.fields)) (whole_block joined) payload

-- the payload of the origin at a position
pub record IsPayloadAt (records : List Record) (position : ℕ) (payload : Option StoredPayload) : Type 0 where
  pub content : Record
  pub there : slice_get records position ≡ Some content
  pub is : IsPayloadBy content (joined_to records content) payload

-- the payload at the end of a path; none where there is no path
abbrev pub IsPayloadOn : List Record → Result Path Unfound → Option StoredPayload → Type 0
IsPayloadOn records (Err unfound) payload = payload ≡ None
IsPayloadOn records (Ok path) payload = IsPayloadAt records path.given payload

-- the digest of a payload under an algorithm, and its mark; none of none
abbrev pub IsDigestOf : Algorithm → Option StoredPayload → Option PayloadDigest → Type 0
IsDigestOf algorithm (Some p) (Some d) =
    (d.coded ≡ p.coded) × (digest_seen d.digest ≡ (algorithm, block_hash algorithm p.bytes))
IsDigestOf algorithm None None = ⊤
IsDigestOf algorithm (Some p) None = ⊥
IsDigestOf algorithm None (Some d) = ⊥

-- the digest of the payload in joined blocks
abbrev pub IsDigestIn : Bool → Bool → Algorithm → List ℕ → Option PayloadDigest → Type 0
IsDigestIn bad http algorithm block digest =
    (payload : Option StoredPayload) × IsPayloadIn bad http block payload × IsDigestOf algorithm payload digest

-- the digest of the payload of an origin, by the records that are joined to it
abbrev pub IsDigestBy : Record → List ReadRecord → Algorithm → Option PayloadDigest → Type 0
IsDigestBy content joined algorithm digest =
    (payload : Option StoredPayload) × IsPayloadBy content (Ok joined) payload × IsDigestOf algorithm payload digest

-- each block has one payload or none
abbrev pub HasOnePayload : Type 0
HasOnePayload = (http : Bool) (block : List ℕ) → (payload : Option StoredPayload) × HasPayload http block payload
    × ((other : Option StoredPayload) → HasPayload http block other → payload ≡ other)

-- so has each path that ends at one of the records
abbrev pub EndsAtOnePayload : Type 0
EndsAtOnePayload = (records : List Record) (found : Result Path Unfound) → EndsInside records found
    → (payload : Option StoredPayload) × IsPayloadOn records found payload
    × ((other : Option StoredPayload) → IsPayloadOn records found other → payload ≡ other)

-- the joined blocks at the end of a path
abbrev pub joined_text_on : List Record → Result Path Unfound → List ℕ
joined_text_on records (Ok path) = joined_text_at records path.given
joined_text_on records (Err unfound) = []

-- a payload is what is stored in joined blocks; none, where nothing is stored
abbrev pub IsStoredPayload : List ℕ → Result StoredBody Reason → Option StoredPayload → Type 0
IsStoredPayload block (Ok s) payload =
    (p : StoredPayload) × (payload ≡ Some p) × (p.bytes ≡ drop s.head_len block)
IsStoredPayload block (Err why) payload = payload ≡ None

-- the payload at the end of a path is what replays find stored there
abbrev pub PayloadIsStored : Type 0
PayloadIsStored = (records : List Record) (found : Result Path Unfound) (stored : Result StoredBody Reason)
    (payload : Option StoredPayload) → IsStoredOn records found stored → IsPayloadOn records found payload
    → IsStoredPayload (joined_text_on records found) stored payload

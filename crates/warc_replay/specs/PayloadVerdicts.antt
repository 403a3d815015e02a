-- How the payloads of records compare with the digests that their heads state (ISO 28500:2017, 5.9, which leaves open
-- which bytes of a coded response are digested). This project's own notion.
use Rattle.std.specs.Prelude.{◌≡◌, ◌≢◌, ◌↔◌, ℕ, ◌<◌, List, [], length, slice_get, unwrap_or, Option, Some, None, Result, Ok, Err, IfErr, IfOk, if◌then◌else◌, ⊤}
use Rattle.std.specs.Str.{bytes_eq}
use Rattle.warc_field.specs.Area.{Pair, value_or_empty}
use Rattle.warc_frame.specs.Effects.{FailsBy, Preserves}
use Rattle.warc_frame.specs.Names.{warc_payload_digest}
use Rattle.warc_frame.specs.Record.{Record}
use Rattle.warc_frame.specs.Seen.{IfHeld, SeenSource}
use Rattle.warc_frame.specs.declared.fault.OutFault.{OutFault}
use Rattle.warc_record.specs.Readings.{reading_of}
use Rattle.warc_record.specs.declared.types.Kind.{Kind}
use Rattle.warc_record.specs.declared.types.Kind.TheVariants as kinds
use Rattle.warc_fixity.specs.Decoded.{stated_digest}
use Rattle.warc_fixity.specs.Stated.{block_hash}
use Rattle.warc_fixity.specs.declared.names.Algorithm.{Algorithm}
use Rattle.warc_index.specs.Orders.{Indexes}
use Rattle.warc_segment.specs.Kept.{Kept as Parts}
use Rattle.warc_answer.specs.Answers.{path_at}
use Rattle.warc_answer.specs.Hashed.{HasPayload, IsPayloadOn, StoredPayload}
use Rattle.warc_answer.specs.Payloads.{is_http_response}
use Rattle.warc_answer.specs.Seen.{IsEarly}
use Rattle.warc_answer.specs.declared.answer.ReplayFault.TheVariants.{Out}
use Rattle.warc_reading.specs.Archive.{IsArchiveOf, contents}
use Rattle.warc_lookup.specs.Indexed.{AreOf, IsIndexedBy}
use Rattle.warc_reading.specs.Row.{Row}
use Rattle.warc_judged.specs.Fixity.{digest_at}
use Rattle.warc_replay.specs.Replaying.{AsksInside}
use Rattle.warc_judged.specs.Summary.{has_segment_number}
use Rattle.warc_replay.specs.Taking.{take_result}
use Rattle.warc_replay.specs.declared.fault.TakeFault.{TakeFault}
use Rattle.warc_replay.specs.declared.fault.TakeFault.TheVariants.{NoRecord, Read, Memory}
use Rattle.warc_replay.specs.declared.record.payload.PayloadVerdict.{PayloadVerdict}
use Rattle.warc_replay.specs.declared.record.payload.PayloadVerdict.TheVariants.{Good, Bad, Unchecked}
use Rattle.warc_replay.specs.declared.record.payload.Unjudged.TheVariants as unjudged

-- the value that states the digest of a payload, empty where no field does
abbrev pub payload_value : List Pair → List ℕ
payload_value fields = value_or_empty warc_payload_digest fields

-- how a payload compares with a digest. Where it differs and a transfer coding was applied, nobody knows which form was
-- digested
abbrev pub compared : Algorithm × List ℕ → StoredPayload → PayloadVerdict
compared (by, digest) p =
    if bytes_eq digest (block_hash by p.bytes) then Good
    else if p.coded then Unchecked unjudged.Coded else Bad

-- by the digest that a value states, if it states one, and the payload, if there is one
abbrev pub by_stated : Option (Algorithm × List ℕ) → Option StoredPayload → PayloadVerdict
by_stated None payload = Unchecked unjudged.Algorithm
by_stated (Some stated) None = Unchecked unjudged.Head
by_stated (Some stated) (Some p) = compared stated p

-- how the payload of a record with these fields compares with the digest that they state
abbrev pub payload_verdict : List Pair → Option StoredPayload → PayloadVerdict
payload_verdict fields payload =
    if has_segment_number fields then Unchecked unjudged.Segment
    else by_stated (stated_digest (payload_value fields)) payload

-- how the payload that the replay of a revisit gives compares with the digest that the revisit's fields state
abbrev pub revisit_verdict : List Pair → Option StoredPayload → PayloadVerdict
revisit_verdict fields None = Unchecked unjudged.Revisit
revisit_verdict fields (Some p) = payload_verdict fields (Some p)

-- the verdict on the payload in a record's own block
abbrev pub IsOwnVerdict : Record → PayloadVerdict → Type 0
IsOwnVerdict content verdict =
    (payload : Option StoredPayload)
    × HasPayload (is_http_response (reading_of content.fields)) content.block payload
    × (verdict ≡ payload_verdict content.fields payload)

-- the verdict on the payload of a revisit at a position
abbrev pub IsRevisitVerdict : List Record → ℕ → Record → PayloadVerdict → Type 0
IsRevisitVerdict records position content verdict =
    (payload : Option StoredPayload) × IsPayloadOn records (path_at records position) payload
    × (verdict ≡ revisit_verdict content.fields payload)

-- the verdict on the payload of the record at a position, by its kind: a request has no payload that was captured
abbrev pub IsVerdictByKind : Kind → List Record → ℕ → Record → PayloadVerdict → Type 0
IsVerdictByKind kinds.Revisit records position content verdict = IsRevisitVerdict records position content verdict
IsVerdictByKind kinds.Request records position content verdict = verdict ≡ Unchecked unjudged.Request
IsVerdictByKind _ records position content verdict = IsOwnVerdict content verdict

-- the verdict on the payload of a record by its kind, if it states the digest of its payload, and none if it doesn't
abbrev pub IsJudgedPayload : List Record → ℕ → Record → Option PayloadVerdict → Type 0
IsJudgedPayload records position content None = payload_value content.fields ≡ []
IsJudgedPayload records position content (Some verdict) = (payload_value content.fields ≢ [])
    × IsVerdictByKind (reading_of content.fields).kind records position content verdict

-- ---- of one record

-- the verdict on the record at the position, or that there is no record; a read or a request for memory may fail
abbrev pub IsPayloadTaken : List Record → ℕ → Result (Option PayloadVerdict) TakeFault → Type 0
IsPayloadTaken records position (Ok verdict) = (content : Record)
    × (slice_get records position ≡ Some content) × IsJudgedPayload records position content verdict
IsPayloadTaken records position (Err NoRecord) = slice_get records position ≡ None
IsPayloadTaken records position (Err Read) = ⊤
IsPayloadTaken records position (Err Memory) = ⊤

-- Giving the verdict on the payload of the record at a position, by rows, an index and parts. Where the archive's
-- source holds its bytes it is that on the record that they spell. Any source is asked for no byte after the archive's.
-- That there is no record is reported exactly where there is no row
pub record GivesPayload (rows : List Row) (index : Indexes) (parts : Parts) (position : ℕ) (old new : SeenSource)
    (answer : Result (Option PayloadVerdict) TakeFault) : Type 0 where
  pub taken : IfHeld old.holds (λ bytes. (is : IsArchiveOf bytes rows) → AreOf is.are.records index parts
      → IsPayloadTaken (contents is.are.records) position answer)
  pub absent : (answer ≡ Err NoRecord) ↔ (slice_get rows position ≡ None)
  pub inside : AsksInside rows index parts old new
  pub keeps : Preserves old new
  pub fails : FailsBy (IsIndexedBy rows index parts) (take_result answer) old new

-- ---- of all records

-- how each payload compares with its digest, if one is stated, and the value of each digest by which a payload isn't
-- good
pub record PayloadJudgements : Type 0 where
  pub verdicts : List (Option PayloadVerdict)
  pub digests : List (List ℕ)

abbrev pub payload_verdict_at : List (Option PayloadVerdict) → ℕ → Option PayloadVerdict
payload_verdict_at verdicts position = unwrap_or (slice_get verdicts position) None

-- a value, where it states the digest of a payload that isn't good by it
abbrev pub value_shown : Option PayloadVerdict → List ℕ → List ℕ
value_shown None value = []
value_shown (Some Good) value = []
value_shown (Some Bad) value = value
value_shown (Some (Unchecked why)) value = value

-- the verdict on the payload of the record at a position, and the value that is kept of it
pub record IsPayloadJudged (records : List Record) (position : ℕ) (verdict : Option PayloadVerdict) (digest : List ℕ)
    : Type 0 where
  pub content : Record
  pub there : slice_get records position ≡ Some content
  pub is : IsJudgedPayload records position content verdict
  pub shown : digest ≡ value_shown verdict (payload_value content.fields)

-- the verdicts on the payloads of the first records, this many, and the values that are kept of them
pub record AreJudgedPayloads (records : List Record) (count : ℕ) (judged : PayloadJudgements) : Type 0 where
  pub verdicts_are : length judged.verdicts ≡ count
  pub digests_are : length judged.digests ≡ count
  pub each : (position : ℕ) → position < count → IsPayloadJudged records position
      (payload_verdict_at judged.verdicts position) (digest_at judged.digests position)

-- The verdicts on the payloads of all records, by rows, an index and parts. Where the archive's source holds its bytes,
-- they are those on the records that they spell. Any source is asked for no byte after the archive's
pub record JudgesPayloads (rows : List Row) (index : Indexes) (parts : Parts) (old new : SeenSource)
    (answer : Result PayloadJudgements OutFault) : Type 0 where
  pub reported : IfHeld old.holds (λ bytes. (is : IsArchiveOf bytes rows) → AreOf is.are.records index parts
      → IfOk answer (λ p. AreJudgedPayloads (contents is.are.records) (length rows) p))
  pub early : IfErr answer (λ e. IsEarly (Out e))
  pub inside : AsksInside rows index parts old new
  pub keeps : Preserves old new
  pub fails : FailsBy (IsIndexedBy rows index parts) answer old new

-- What is known of the payloads of records once their archive is read: that none is stated, or that it is good. Of the
-- others nothing is known yet.
use Rattle.std.specs.Prelude.{◌≡◌, ℕ, ◌+◌, Bool, true, false, List, length, slice_get, unwrap_or, Option, Some, None, Result, IfErr, IfOk, OnOk, ⊤}
use Rattle.warc_frame.specs.Effects.{FailsBy, Preserves}
use Rattle.warc_frame.specs.Record.{Record}
use Rattle.warc_frame.specs.Seen.{IfHeld, SeenSource}
use Rattle.warc_frame.specs.declared.fault.OutFault.{OutFault}
use Rattle.warc_record.specs.Readings.{reading_of}
use Rattle.warc_value.specs.declared.hash.Verdict.{Verdict}
use Rattle.warc_value.specs.declared.hash.Verdict.TheVariants.{Good, Bad, Unchecked}
use Rattle.warc_index.specs.Orders.{Indexes}
use Rattle.warc_segment.specs.Kept.{Kept as Parts}
use Rattle.warc_answer.specs.Hashed.{HasPayload, StoredPayload}
use Rattle.warc_answer.specs.Payloads.{is_http_response}
use Rattle.warc_answer.specs.Seen.{IsEarly}
use Rattle.warc_answer.specs.declared.answer.ReplayFault.TheVariants.{Out}
use Rattle.warc_reading.specs.Archive.{IsArchiveOf, contents}
use Rattle.warc_reading.specs.Row.{Placed, Row}
use Rattle.warc_lookup.specs.Indexed.{Archived, AreOf, IsIndexed, IsIndexedBy}
use Rattle.warc_judged.specs.Counting.{verdict_at}
use Rattle.warc_replay.specs.Capturing.{AreKnownBlocks, IsIndexedAt}
use Rattle.warc_replay.specs.PayloadStates.{AreKnown, holds_own}
use Rattle.warc_replay.specs.PayloadVerdicts.{AreJudgedPayloads, IsJudgedPayload, PayloadJudgements}
use Rattle.warc_replay.specs.Replaying.{AsksInside}
use Rattle.warc_replay.specs.declared.record.digests.Known.{Known}
use Rattle.warc_replay.specs.declared.record.payload.PayloadVerdict.{PayloadVerdict}
use Rattle.warc_replay.specs.declared.record.payload.PayloadVerdict.TheVariants as payload

-- whether a record states the digest of its payload, and how the payload compares with it, as far as that is known
pub record KnownPayloads : Type 0 where
  pub stated : List Bool
  pub verdicts : List Verdict

-- the verdict that is known
abbrev pub known_by : Bool → Verdict → Option (Option PayloadVerdict)
known_by false verdict = Some None
known_by true Good = Some (Some payload.Good)
known_by true Bad = None
known_by true Unchecked = None

abbrev pub known_at : KnownPayloads → ℕ → Option (Option PayloadVerdict)
known_at known position =
    known_by (unwrap_or (slice_get known.stated position) true) (verdict_at known.verdicts position)

-- a verdict that is known is the one on the record's payload, whatever the other records are
abbrev pub IsRightFor : Placed → Option (Option PayloadVerdict) → Type 0
IsRightFor p None = ⊤
IsRightFor p (Some verdict) =
    (records : List Record) (position : ℕ) → IsJudgedPayload records position p.content verdict

-- so is each of an archive
abbrev pub AreRightFor : KnownPayloads → List Placed → Type 0
AreRightFor known records = (position : ℕ) (p : Placed) → slice_get records position ≡ Some p
    → IsRightFor p (known_at known position)

-- so is what is known of blocks too
abbrev pub AreKnownFor : KnownPayloads → List Verdict → List Placed → Type 0
AreKnownFor known blocks records = AreRightFor known records × AreKnownBlocks blocks records

-- as many are kept as there are records, and they are right
pub record AreKnownPayloads (known : KnownPayloads) (records : List Placed) : Type 0 where
  pub stated_are : length known.stated ≡ length records
  pub verdicts_are : length known.verdicts ≡ length records
  pub right : AreRightFor known records

-- an archive, and what is known of its payloads
pub record PayloadArchive (S : Type 0) : Type 0 where
  pub archive : Archived S
  pub known : KnownPayloads

-- it is that of these bytes
pub record IsPayloadArchive {S : Type 0} (bytes : List ℕ) (a : PayloadArchive S) : Type 0 where
  pub indexed : IsIndexed bytes a.archive
  pub right : AreRightFor a.known indexed.listed.are.records

-- The verdicts on the payloads of all records, by rows, an index and parts, where what is `Right` is so of the records.
-- Where the archive's source holds its bytes, they are those on the records that they spell. Any source is asked for no
-- byte after the archive's
pub record JudgesPayloadsBy (Right : List Placed → Type 0) (rows : List Row) (index : Indexes) (parts : Parts)
    (old new : SeenSource) (answer : Result PayloadJudgements OutFault) : Type 0 where
  pub reported : IfHeld old.holds (λ bytes. (is : IsArchiveOf bytes rows) → AreOf is.are.records index parts
      → Right is.are.records → IfOk answer (λ p. AreJudgedPayloads (contents is.are.records) (length rows) p))
  pub early : IfErr answer (λ e. IsEarly (Out e))
  pub inside : AsksInside rows index parts old new
  pub keeps : Preserves old new
  pub fails : FailsBy (IsIndexedBy rows index parts) answer old new

-- ---- on the way. States of the code

-- these bytes are the payload in a block, of an HTTP response or not
abbrev pub IsPayloadOf : Bool → List ℕ → List ℕ → Type 0
IsPayloadOf http block bytes = (stored : StoredPayload) × (stored.bytes ≡ bytes) × HasPayload http block (Some stored)

-- these bytes are the payload in a record's own block, by which the record is judged
pub record HoldsPayload (content : Record) (bytes : List ℕ) : Type 0 where
  pub own : holds_own (reading_of content.fields).kind ≡ true
  pub is : IsPayloadOf (is_http_response (reading_of content.fields)) content.block bytes

-- one more verdict, that on the payload of the record at a position, where what is `Right` is so of the records
pub record JudgesMoreBy (Right : List Placed → Type 0) (rows : List Row) (index : Indexes) (parts : Parts)
    (position : ℕ) (known knows : List Known) (judged judges : PayloadJudgements) (old new : SeenSource)
    (answer : Result (Unit {0}) OutFault) : Type 0 where
  pub reported : IfHeld old.holds (λ bytes. (is : IsArchiveOf bytes rows) → AreOf is.are.records index parts
      → Right is.are.records → AreKnown (contents is.are.records) known
      → AreJudgedPayloads (contents is.are.records) position judged
      → OnOk answer (AreKnown (contents is.are.records) knows
      × AreJudgedPayloads (contents is.are.records) (position + 1) judges))
  pub early : IfErr answer (λ e. IsEarly (Out e))
  pub inside : AsksInside rows index parts old new
  pub keeps : Preserves old new
  pub fails : FailsBy (IsIndexedAt rows index parts position) answer old new

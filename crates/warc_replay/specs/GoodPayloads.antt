-- Digests of origins' payloads that are learned from verdicts: where a record's payload is good, its digest is the one
-- that its head states. States of the code.
use Rattle.std.specs.Prelude.{◌≡◌, ℕ, ◌<◌, false, List, length, slice_get, Option, Some, Result, IfErr, IfOk, IfSome, OnOk}
use Rattle.warc_value.specs.declared.hash.Verdict.{Verdict}
use Rattle.warc_frame.specs.Effects.{FailsBy, Preserves}
use Rattle.warc_frame.specs.Record.{Record}
use Rattle.warc_frame.specs.Seen.{AsksOnly, IfHeld, SeenSource}
use Rattle.warc_frame.specs.declared.fault.OutFault.{OutFault}
use Rattle.warc_record.specs.Readings.{reading_of}
use Rattle.warc_fixity.specs.Judged.{digest_seen}
use Rattle.warc_fixity.specs.declared.hasher.Digest.{Digest}
use Rattle.warc_index.specs.Orders.{Indexes}
use Rattle.warc_segment.specs.Kept.{Kept as Parts}
use Rattle.warc_answer.specs.Known.{IsDigestOfAny}
use Rattle.warc_answer.specs.Payloads.{is_http_response}
use Rattle.warc_answer.specs.Seen.{IsEarly}
use Rattle.warc_answer.specs.declared.answer.ReplayFault.TheVariants.{Out}
use Rattle.warc_answer.specs.declared.hashed.PayloadDigest.{PayloadDigest}
use Rattle.warc_reading.specs.Archive.{IsArchiveOf, contents}
use Rattle.warc_reading.specs.Row.{Row}
use Rattle.warc_lookup.specs.Indexed.{AreOf, ArePartsOf}
use Rattle.warc_judged.specs.Summary.{has_segment_number}
use Rattle.warc_replay.specs.Capturing.{AreKnownBlocks, IsBlockVerdict, IsIndexedAt}
use Rattle.warc_replay.specs.Looking.{AsksWithin}
use Rattle.warc_replay.specs.Origins.{IsRecordAt}
use Rattle.warc_replay.specs.PayloadStates.{AreKnown, IsOriginDigest}
use Rattle.warc_replay.specs.PayloadVerdicts.{IsJudgedPayload, payload_verdict_at}
use Rattle.warc_replay.specs.Replaying.{AsksInside}
use Rattle.warc_replay.specs.declared.record.digests.Known.{Known}
use Rattle.warc_replay.specs.declared.record.payload.PayloadVerdict.{PayloadVerdict}
use Rattle.warc_replay.specs.declared.record.payload.PayloadVerdict.TheVariants.{Good}

-- the payload of the record at a position is good, if there is such a record
abbrev pub IsGoodPayload : List Record → ℕ → Type 0
IsGoodPayload records position = (content : Record) → slice_get records position ≡ Some content
    → IsJudgedPayload records position content (Some Good)

-- so is each whose verdict says it
abbrev pub AreGoodPayloads : List Record → List (Option PayloadVerdict) → Type 0
AreGoodPayloads records verdicts =
    (position : ℕ) → payload_verdict_at verdicts position ≡ Some Good → IsGoodPayload records position

-- a digest is that of the payload in a record's own block, if it has one, and no other block is joined to this one
pub record IsOwnDigest (content : Record) (digest : Digest) : Type 0 where
  pub alone : has_segment_number content.fields ≡ false
  pub is : IsDigestOfAny (is_http_response (reading_of content.fields)) content.block digest

abbrev pub IsOwnDigestAt : List Record → ℕ → Digest → Type 0
IsOwnDigestAt records position digest = (content : Record) → slice_get records position ≡ Some content
    → IsOwnDigest content digest

-- the rows are those of an archive of these bytes, and the position is that of a record
abbrev pub IsRowIn : List Row → ℕ → List ℕ → Type 0
IsRowIn rows position bytes = (is : IsArchiveOf bytes rows) × (position < length (contents is.are.records))

-- the digest that the head of the record at a position states of the payload in its block, which is good
pub record StatesGood (rows : List Row) (position : ℕ) (old new : SeenSource)
    (answer : Result (Option Digest) OutFault) : Type 0 where
  pub reported : IfHeld old.holds (λ bytes. (is : IsArchiveOf bytes rows)
      → IsGoodPayload (contents is.are.records) position
      → IfOk answer (λ stated. IfSome stated (IsOwnDigestAt (contents is.are.records) position)))
  pub early : IfErr answer (λ e. IsEarly (Out e))
  pub inside : (bytes : List ℕ) → IsArchiveOf bytes rows → AsksOnly (λ at. at < length bytes) old new
  pub keeps : Preserves old new
  pub fails : FailsBy (IsRowIn rows position) answer old new

-- the digest of the payload of the origin at a position, by that of what is in its own block and by what is known of
-- this block
pub record DigestsKnown (rows : List Row) (parts : Parts) (origin : ℕ) (own : Verdict) (digest : Digest)
    (old new : SeenSource) (answer : Result (Option PayloadDigest) OutFault) : Type 0 where
  pub reported : IfHeld old.holds (λ bytes. (is : IsArchiveOf bytes rows) → ArePartsOf is.are.records parts
      → IsOwnDigestAt (contents is.are.records) origin digest
      → IsBlockVerdict (contents is.are.records) origin own
      → IfOk answer (IsOriginDigest (contents is.are.records) origin (digest_seen digest).0))
  pub early : IfErr answer (λ e. IsEarly (Out e))
  pub inside : AsksWithin rows parts old new
  pub keeps : Preserves old new
  pub fails : FailsBy (IsRecordAt rows parts origin) answer old new

-- the digest of the payload of the origin at a position is known then, if that payload is good
pub record LearnsDigest (rows : List Row) (parts : Parts) (origin : ℕ) (own : Verdict) (known knows : List Known)
    (old new : SeenSource) (answer : Result (Unit {0}) OutFault) : Type 0 where
  pub reported : IfHeld old.holds (λ bytes. (is : IsArchiveOf bytes rows) → ArePartsOf is.are.records parts
      → IsGoodPayload (contents is.are.records) origin → IsBlockVerdict (contents is.are.records) origin own
      → AreKnown (contents is.are.records) known → OnOk answer (AreKnown (contents is.are.records) knows))
  pub early : IfErr answer (λ e. IsEarly (Out e))
  pub inside : AsksWithin rows parts old new
  pub keeps : Preserves old new
  pub fails : FailsBy (IsRecordAt rows parts origin) answer old new

-- the digest of the payload of the origin of the capture at a position is known then, if that payload is good; by what
-- is known of blocks and payloads
pub record LearnsOrigin (rows : List Row) (index : Indexes) (parts : Parts) (position : ℕ) (blocks : List Verdict)
    (verdicts : List (Option PayloadVerdict)) (known knows : List Known) (old new : SeenSource)
    (answer : Result (Unit {0}) OutFault) : Type 0 where
  pub reported : IfHeld old.holds (λ bytes. (is : IsArchiveOf bytes rows) → AreOf is.are.records index parts
      → AreKnownBlocks blocks is.are.records → AreGoodPayloads (contents is.are.records) verdicts
      → AreKnown (contents is.are.records) known → OnOk answer (AreKnown (contents is.are.records) knows))
  pub early : IfErr answer (λ e. IsEarly (Out e))
  pub inside : AsksInside rows index parts old new
  pub keeps : Preserves old new
  pub fails : FailsBy (IsIndexedAt rows index parts position) answer old new

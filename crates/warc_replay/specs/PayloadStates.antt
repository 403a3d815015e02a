-- How the payloads of records are judged one after another, and the digests of origins' payloads that are kept
-- meanwhile. States of the code.
use Rattle.std.specs.Prelude.{◌≡◌, ℕ, Bool, true, false, List, slice_get, Option, Some, None, Result, Ok, Err, IfErr, IfOk}
use Rattle.std.specs.Option.{option_map_or}
use Rattle.warc_field.specs.Area.{Pair}
use Rattle.warc_frame.specs.Effects.{FailsBy, Preserves}
use Rattle.warc_frame.specs.Record.{Record}
use Rattle.warc_frame.specs.Seen.{IfHeld, SeenSource}
use Rattle.warc_frame.specs.declared.fault.OutFault.{OutFault}
use Rattle.warc_frame.specs.declared.fault.OutFault.TheVariants as outs
use Rattle.warc_record.specs.declared.types.Kind.{Kind}
use Rattle.warc_record.specs.declared.types.Kind.TheVariants as kinds
use Rattle.warc_fixity.specs.Decoded.{stated_digest}
use Rattle.warc_fixity.specs.declared.names.Algorithm.{Algorithm}
use Rattle.warc_fixity.specs.declared.names.Algorithm.TheVariants.{Sha1}
use Rattle.warc_index.specs.Orders.{Indexes}
use Rattle.warc_segment.specs.Kept.{Kept as Parts}
use Rattle.warc_answer.specs.Answers.{path_at}
use Rattle.warc_answer.specs.Hashed.{IsDigestOf, IsPayloadAt, IsPayloadOn, StoredPayload}
use Rattle.warc_answer.specs.Seen.{IsEarly}
use Rattle.warc_answer.specs.declared.answer.ReplayFault.{ReplayFault}
use Rattle.warc_answer.specs.declared.answer.ReplayFault.TheVariants.{Reason, Out}
use Rattle.warc_answer.specs.declared.hashed.PayloadDigest.{PayloadDigest}
use Rattle.warc_reading.specs.Archive.{IsArchiveOf, contents}
use Rattle.warc_lookup.specs.Indexed.{AreOf, ArePartsOf}
use Rattle.warc_reading.specs.Row.{Placed, Row, row_of}
use Rattle.warc_replay.specs.Capturing.{IsIndexedAt}
use Rattle.warc_replay.specs.Looking.{AsksWithin}
use Rattle.warc_replay.specs.Origins.{IsRecordAt}
use Rattle.warc_replay.specs.PayloadVerdicts.{IsJudgedPayload, IsOwnVerdict, IsRevisitVerdict, payload_value}
use Rattle.warc_replay.specs.Replaying.{AsksInside}
use Rattle.warc_replay.specs.declared.record.comparison.Compared.{Compared}
use Rattle.warc_replay.specs.declared.record.comparison.Holder.{Holder}
use Rattle.warc_replay.specs.declared.record.comparison.Holder.TheVariants.{Itself, Origin, Nobody}
use Rattle.warc_replay.specs.declared.record.digests.Known.{Known}
use Rattle.warc_replay.specs.declared.fault.TakeFault.{TakeFault}
use Rattle.warc_replay.specs.declared.fault.TakeFault.TheVariants.{Read, Memory}
use Rattle.warc_replay.specs.declared.record.payload.PayloadVerdict.{PayloadVerdict}
use Rattle.warc_replay.specs.declared.record.payload.PayloadVerdict.TheVariants.{Unchecked}
use Rattle.warc_replay.specs.declared.record.payload.Unjudged.TheVariants.{Request}

-- whether a record of a kind is judged by the payload in its own block
abbrev pub holds_own : Kind → Bool
holds_own kinds.Revisit = false
holds_own kinds.Request = false
holds_own _ = true

-- the algorithm by which a payload is digested: the one of the digest that a value states, if it states one
abbrev pub algorithm_by : List ℕ → Algorithm
algorithm_by value = option_map_or (λ stated. stated.0) (stated_digest value) Sha1

abbrev pub algorithm_for : List Pair → Algorithm
algorithm_for fields = algorithm_by (payload_value fields)

-- this is the digest of the payload of the origin at a position
abbrev pub IsOriginDigest : List Record → ℕ → Algorithm → Option PayloadDigest → Type 0
IsOriginDigest records origin by digest =
    (payload : Option StoredPayload) × IsPayloadAt records origin payload × IsDigestOf by payload digest

-- this is the digest of the payload at the end of a position's path
abbrev pub IsPathDigest : List Record → ℕ → Algorithm → Option PayloadDigest → Type 0
IsPathDigest records position by digest =
    (payload : Option StoredPayload) × IsPayloadOn records (path_at records position) payload
    × IsDigestOf by payload digest

-- each is the digest of its origin's payload
abbrev pub AreKnown : List Record → List Known → Type 0
AreKnown records known = (i : ℕ) (k : Known) → slice_get known i ≡ Some k
    → IsOriginDigest records k.origin k.algorithm k.digest

-- it is known under an origin and an algorithm
pub record IsKnownOf (known : List Known) (origin : ℕ) (by : Algorithm) (k : Known) : Type 0 where
  pub index : ℕ
  pub there : slice_get known index ≡ Some k
  pub origin_is : k.origin ≡ origin
  pub algorithm_is : k.algorithm ≡ by

-- the digest of the payload of the origin at a position, by rows and parts
pub record DigestsOrigin (rows : List Row) (parts : Parts) (origin : ℕ) (by : Algorithm) (old new : SeenSource)
    (answer : Result (Option PayloadDigest) OutFault) : Type 0 where
  pub reported : IfHeld old.holds (λ bytes. (is : IsArchiveOf bytes rows) → ArePartsOf is.are.records parts
      → IfOk answer (IsOriginDigest (contents is.are.records) origin by))
  pub early : IfErr answer (λ e. IsEarly (Out e))
  pub inside : AsksWithin rows parts old new
  pub keeps : Preserves old new
  pub fails : FailsBy (IsRecordAt rows parts origin) answer old new

-- what is digested of an origin that isn't found: nothing where its blocks don't join
abbrev pub no_digest : ReplayFault → Result (Option PayloadDigest) OutFault
no_digest (Reason why) = Ok None
no_digest (Out e) = Err e

-- the digest of the payload of the origin at a position, or one that was known; what is known then is known of these
-- records
pub record DigestsOnce (rows : List Row) (parts : Parts) (origin : ℕ) (by : Algorithm) (known knows : List Known)
    (old new : SeenSource) (answer : Result (Option PayloadDigest) OutFault) : Type 0 where
  pub reported : IfHeld old.holds (λ bytes. (is : IsArchiveOf bytes rows) → ArePartsOf is.are.records parts
      → AreKnown (contents is.are.records) known → IfOk answer (λ digest.
      IsOriginDigest (contents is.are.records) origin by digest × AreKnown (contents is.are.records) knows))
  pub early : IfErr answer (λ e. IsEarly (Out e))
  pub inside : AsksWithin rows parts old new
  pub keeps : Preserves old new
  pub fails : FailsBy (IsRecordAt rows parts origin) answer old new

-- the digest of the payload at the end of a position's path
pub record DigestsPath (rows : List Row) (index : Indexes) (parts : Parts) (position : ℕ) (by : Algorithm)
    (known knows : List Known) (old new : SeenSource) (answer : Result (Option PayloadDigest) OutFault)
    : Type 0 where
  pub reported : IfHeld old.holds (λ bytes. (is : IsArchiveOf bytes rows) → AreOf is.are.records index parts
      → AreKnown (contents is.are.records) known → IfOk answer (λ digest.
      IsPathDigest (contents is.are.records) position by digest × AreKnown (contents is.are.records) knows))
  pub early : IfErr answer (λ e. IsEarly (Out e))
  pub inside : AsksInside rows index parts old new
  pub keeps : Preserves old new
  pub fails : FailsBy (IsIndexedAt rows index parts position) answer old new

-- the record at a position has this row and these fields
pub record IsRowAt (records : List Placed) (position : ℕ) (row : Row) (fields : List Pair) : Type 0 where
  pub placed : Placed
  pub there : slice_get records position ≡ Some placed
  pub row_is : row ≡ row_of placed
  pub fields_are : fields ≡ placed.content.fields

-- the verdict on the payload of the record at a position, whose row and fields these are
pub record JudgesPayload (rows : List Row) (index : Indexes) (parts : Parts) (position : ℕ) (row : Row)
    (fields : List Pair) (known knows : List Known) (old new : SeenSource)
    (answer : Result (Option PayloadVerdict) OutFault) : Type 0 where
  pub reported : IfHeld old.holds (λ bytes. (is : IsArchiveOf bytes rows) → AreOf is.are.records index parts
      → AreKnown (contents is.are.records) known → (at : IsRowAt is.are.records position row fields)
      → IfOk answer (λ verdict. IsJudgedPayload (contents is.are.records) position at.placed.content verdict
      × AreKnown (contents is.are.records) knows))
  pub early : IfErr answer (λ e. IsEarly (Out e))
  pub inside : slice_get rows position ≡ Some row → AsksInside rows index parts old new
  pub keeps : Preserves old new
  pub fails : slice_get rows position ≡ Some row → FailsBy (IsIndexedAt rows index parts position) answer old new

-- the verdict on a payload that is here
abbrev pub IsVerdictFrom : Holder → List Record → ℕ → Record → PayloadVerdict → Type 0
IsVerdictFrom Itself records position content verdict = IsOwnVerdict content verdict
IsVerdictFrom Origin records position content verdict = IsRevisitVerdict records position content verdict
IsVerdictFrom Nobody records position content verdict = verdict ≡ Unchecked Request

-- these are the fields of the record at the position, and this is the verdict on its payload
pub record IsComparedAt (records : List Record) (position : ℕ) (fields : List Pair) (verdict : Option PayloadVerdict)
    : Type 0 where
  pub content : Record
  pub there : slice_get records position ≡ Some content
  pub fields_are : fields ≡ content.fields
  pub is : IsJudgedPayload records position content verdict

-- the head of the record at a position, and the verdict on its payload, by rows, an index and parts
pub record JudgesNextPayload {A : Type 0} (rows : List Row) (index : Indexes) (parts : Parts) (position : ℕ)
    (known knows : List Known) (old new : SeenSource) (answer : Result (Compared A) OutFault) : Type 0 where
  pub reported : IfHeld old.holds (λ bytes. (is : IsArchiveOf bytes rows) → AreOf is.are.records index parts
      → AreKnown (contents is.are.records) known → IfOk answer (λ c.
      IsComparedAt (contents is.are.records) position c.head c.verdict
      × AreKnown (contents is.are.records) knows))
  pub early : IfErr answer (λ e. IsEarly (Out e))
  pub inside : AsksInside rows index parts old new
  pub keeps : Preserves old new
  pub fails : FailsBy (IsIndexedAt rows index parts position) answer old new

-- why a record isn't judged, by the end of an output of which nothing went out
abbrev pub take_fault : OutFault → TakeFault
take_fault (outs.Read sent) = Read
take_fault (outs.Write sent) = Read
take_fault (outs.Memory sent) = Memory

-- The outcomes of captures, of which each origin is judged once.
use Rattle.std.specs.Prelude.{◌≡◌, ℕ, ◌++◌, ◌<◌, ◌≤◌, Bool, List, length, map, take, drop, slice_get, Option, Some, Result, Ok, Err, IfErr, IfOk, OnOk, ⊤}
use Rattle.std.specs.Io.KnownBytes.{append_known}
use Rattle.std.specs.List.{AllByRecursion, Contains, list_any}
use Rattle.std.specs.declared.vec.Vec.{Vec}
use Rattle.warc_value.specs.declared.hash.Verdict.{Verdict}
use Rattle.warc_value.specs.declared.hash.Verdict.TheVariants.{Unchecked}
use Rattle.warc_frame.specs.Device.{Staged}
use Rattle.warc_frame.specs.Effects.{FailsBy, Preserves}
use Rattle.warc_frame.specs.Failing.{failed_by}
use Rattle.warc_frame.specs.Record.{Record, max_archive}
use Rattle.warc_frame.specs.Seen.{IfHeld, Seen, SeenSource}
use Rattle.warc_frame.specs.Send.{IsStaged, WentOut, sent_of}
use Rattle.warc_frame.specs.declared.fault.OutFault.{OutFault}
use Rattle.warc_frame.specs.declared.fault.OutFault.TheVariants.{Read, Write, Memory}
use Rattle.warc_index.specs.Orders.{Indexes}
use Rattle.warc_segment.specs.Joined.{ReadRecord}
use Rattle.warc_segment.specs.Kept.{Kept as Parts}
use Rattle.warc_segment.specs.declared.place.Place.{Place}
use Rattle.warc_answer.specs.Known.{Agrees}
use Rattle.warc_answer.specs.Payloads.{has_bad_block, read_record}
use Rattle.warc_answer.specs.Replays.{out_result}
use Rattle.warc_answer.specs.Seen.{IsEarly, stored_seen}
use Rattle.warc_answer.specs.Stored.{IsStoredAt, joined_to}
use Rattle.warc_answer.specs.declared.answer.Reason.{Reason as Why}
use Rattle.warc_answer.specs.declared.answer.ReplayFault.{ReplayFault}
use Rattle.warc_answer.specs.declared.answer.ReplayFault.TheVariants.{Reason, Out}
use Rattle.warc_answer.specs.declared.stored.Stored.{Stored}
use Rattle.warc_reading.specs.Archive.{IsArchiveOf, SpellsFrom, contents}
use Rattle.warc_lookup.specs.Indexed.{AreOf, ArePartsOf, placed_record}
use Rattle.warc_reading.specs.Row.{Placed, Row}
use Rattle.warc_replay.specs.Captures.{captures_text}
use Rattle.warc_judged.specs.Counting.{verdict_at}
use Rattle.warc_replay.specs.Looking.{AsksWithin}
use Rattle.warc_replay.specs.KnownSeries.{BeginsSeries}
use Rattle.warc_replay.specs.Origins.{IsOriginAt, IsRecordAt, IsSharedAt}
use Rattle.warc_replay.specs.Outcomes.{CaptureSeen, IsOutcome, judged_seen, outcome_seen}
use Rattle.warc_replay.specs.Replaying.{AsksInside}
use Rattle.warc_replay.specs.declared.replay.captures.JoinedVerdicts.{JoinedVerdicts}
use Rattle.warc_replay.specs.declared.replay.known_series.Shared.{Shared}
use Rattle.warc_replay.specs.declared.replay.outcome.Outcome.{Outcome}

-- these are the outcomes of the captures at the positions, in their order
pub record AreOutcomes (records : List Record) (positions : List ℕ) (captures : List CaptureSeen) : Type 0 where
  pub chosen : map (λ c. c.chosen) captures ≡ positions
  pub each : AllByRecursion (IsOutcome records) captures

abbrev pub outcomes_seen : {A B : Type 0} → Vec (Outcome A) B → List CaptureSeen
outcomes_seen outcomes = map outcome_seen outcomes.items

-- the rows, the index and the parts are those of an archive of these bytes, and each position is that of a record
abbrev pub AreIndexedAt : List Row → Indexes → Parts → List ℕ → List ℕ → Type 0
AreIndexedAt rows index parts positions bytes = (is : IsArchiveOf bytes rows) × AreOf is.are.records index parts
    × ((p : ℕ) → Contains positions p → p < length (contents is.are.records))

-- these are the outcomes of all these captures, or of the first of them
abbrev pub AreFirstOutcomes : List Record → List ℕ → List CaptureSeen → Type 0
AreFirstOutcomes records positions captures = AreOutcomes records (take (length captures) positions) captures

-- What is answered of the captures at positions, by rows, an index and parts. Where the archive's source holds its
-- bytes, these are the outcomes of its records. A fault comes before anything is written
pub record JudgesAll {A B : Type 0} (rows : List Row) (index : Indexes) (parts : Parts) (positions : List ℕ)
    (old new : SeenSource) (answer : Result (Vec (Outcome A) B) OutFault) : Type 0 where
  pub reported : IfHeld old.holds (λ bytes. (is : IsArchiveOf bytes rows) → AreOf is.are.records index parts
      → IfOk answer (λ outcomes. AreOutcomes (contents is.are.records) positions (outcomes_seen outcomes)))
  pub early : IfErr answer (λ e. IsEarly (Out e))
  pub inside : AsksInside rows index parts old new
  pub keeps : Preserves old new
  pub fails : FailsBy (AreIndexedAt rows index parts positions) answer old new

-- What putting the lines of captures at positions to an output does, by rows, an index and parts. These are the
-- captures whose lines are put: all of them, or after a fault the first ones. Where the archive's source holds its
-- bytes, and what is `Right` is so of its records, they are the outcomes of its records. The lines are staged, or a
-- front of them went out, as long as the fault says
pub record PutsCaptures (Right : List Placed → Type 0) (rows : List Row) (index : Indexes) (parts : Parts)
    (positions : List ℕ) (old new : SeenSource) (before after : Seen) (waits waiting : Staged)
    (answer : Result (Unit {0}) OutFault) : Type 0 where
  pub captures : List CaptureSeen
  pub are : IfHeld old.holds (λ bytes. (is : IsArchiveOf bytes rows) → AreOf is.are.records index parts
      → Right is.are.records → AreFirstOutcomes (contents is.are.records) positions captures)
  pub all : OnOk answer (length captures ≡ length positions)
  pub out : (start : Option (List ℕ)) (output : List ℕ) → IsStaged start output before.reports waits
      → OnOk answer (IsStaged start (output ++ captures_text rows captures) after.reports waiting)
  pub cut : (start : Option (List ℕ)) (output : List ℕ) → IsStaged start output before.reports waits
      → IfErr answer (λ e. WentOut start (output ++ captures_text rows captures) after.reports (sent_of e))
  pub inside : AsksInside rows index parts old new
  pub keeps : Preserves old new
  pub fails : FailsBy (AreIndexedAt rows index parts positions) answer old new
  pub cause : after.faults ≡ failed_by answer before.faults

-- what writing the lines of captures does if nothing waits before or after: the lines went out, or a front of them
pub record SendsCaptures (Right : List Placed → Type 0) (rows : List Row) (index : Indexes) (parts : Parts)
    (positions : List ℕ) (old new : SeenSource) (before after : Seen) (answer : Result (Unit {0}) OutFault)
    : Type 0 where
  pub captures : List CaptureSeen
  pub are : IfHeld old.holds (λ bytes. (is : IsArchiveOf bytes rows) → AreOf is.are.records index parts
      → Right is.are.records → AreFirstOutcomes (contents is.are.records) positions captures)
  pub all : OnOk answer (length captures ≡ length positions)
  pub reported : OnOk answer (after.reports ≡ append_known before.reports (captures_text rows captures))
  pub cut : IfErr answer (λ e. WentOut before.reports (captures_text rows captures) after.reports (sent_of e))
  pub inside : AsksInside rows index parts old new
  pub keeps : Preserves old new
  pub fails : FailsBy (AreIndexedAt rows index parts positions) answer old new
  pub cause : after.faults ≡ failed_by answer before.faults

-- ---- on the way: what is known of blocks, and what is found of those that are joined. States of the code

-- what is known of the block of the record at a position is right
abbrev pub IsBlockVerdict : List Record → ℕ → Verdict → Type 0
IsBlockVerdict records position verdict = (r : Record) → slice_get records position ≡ Some r
    → Agrees verdict (has_bad_block (read_record r))

-- what is known of the blocks that are joined to the record at a position is right
abbrev pub IsJoinedVerdict : List Record → ℕ → Verdict → Type 0
IsJoinedVerdict records position verdict = (r : Record) (joined : List ReadRecord) → slice_get records position ≡ Some r
    → joined_to records r ≡ Ok joined → Agrees verdict (list_any has_bad_block joined)

-- what is known of the block of each record is right
abbrev pub AreKnownBlocks : List Verdict → List Placed → Type 0
AreKnownBlocks known records = (position : ℕ) → IsBlockVerdict (contents records) position (verdict_at known position)

-- what is known of the blocks after a first segment's own is right, for all of the series of the segment at a position
abbrev pub IsRestVerdict : List Placed → ℕ → Verdict → Type 0
IsRestVerdict records segment verdict = (i : ℕ) (p : Placed) (joined : List ReadRecord) → slice_get records i ≡ Some p
    → BeginsSeries (map placed_record records) segment (placed_record p).head
    → joined_to (contents records) p.content ≡ Ok joined → Agrees verdict (list_any has_bad_block (drop 1 joined))

abbrev pub AreRests : List Verdict → List Placed → Type 0
AreRests rests records = (segment : ℕ) → IsRestVerdict records segment (verdict_at rests segment)

-- nothing was found of joined blocks
abbrev pub AreUnknown : {A : Type 0} → JoinedVerdicts A → Type 0
AreUnknown found =
    ((i : ℕ) → verdict_at found.whole i ≡ Unchecked) × ((i : ℕ) → verdict_at found.rest i ≡ Unchecked)

-- and what was found of the blocks that are joined to it, and of those that series share
pub record AreFound {A : Type 0} (known : List Verdict) (found : JoinedVerdicts A) (records : List Placed)
    : Type 0 where
  pub own : AreKnownBlocks known records
  pub joined : (position : ℕ) → IsJoinedVerdict (contents records) position (verdict_at found.whole position)
  pub rest : AreRests found.rest records

-- the origin at a position, which begins this series, and the places of what is joined to its block among the bytes
pub record IsOriginIn (bytes : List ℕ) (records : List Placed) (position : ℕ) (http : Bool) (content_type : List ℕ)
    (places : List Place) (shared : Shared) : Type 0 where
  pub spelled : SpellsFrom 0 records bytes
  pub short : length bytes ≤ max_archive
  pub at : IsOriginAt records position http content_type places
  pub series : IsSharedAt records position (Some shared) places

-- what is stored of the origin at a position, or a reason; nothing where a read or an allocation failed
abbrev pub IsStoredFound : {A : Type 0} → List Record → ℕ → Result (Stored A) ReplayFault → Type 0
IsStoredFound records position (Ok s) = IsStoredAt records position (Ok (stored_seen s))
IsStoredFound records position (Err (Reason why)) = IsStoredAt records position (Err why)
IsStoredFound records position (Err (Out e)) = ⊤

-- what is stored of the origin at a position, by what is known of its block and of the joined ones
pub record LooksBy {A : Type 0} (rows : List Row) (parts : Parts) (position : ℕ) (own joined : Verdict)
    (rests again : List Verdict) (old new : SeenSource) (answer : Result (Stored A) ReplayFault) : Type 0 where
  pub reported : IfHeld old.holds (λ bytes. (is : IsArchiveOf bytes rows) → ArePartsOf is.are.records parts
      → IsBlockVerdict (contents is.are.records) position own
      → IsJoinedVerdict (contents is.are.records) position joined → AreRests rests is.are.records
      → IsStoredFound (contents is.are.records) position answer)
  pub remembers : IfHeld old.holds (λ bytes. (is : IsArchiveOf bytes rows) → ArePartsOf is.are.records parts
      → AreRests rests is.are.records → AreRests again is.are.records)
  pub early : IfErr answer IsEarly
  pub inside : AsksWithin rows parts old new
  pub keeps : Preserves old new
  pub fails : FailsBy (IsRecordAt rows parts position) (out_result answer) old new

pub record JudgesBy {A : Type 0} (rows : List Row) (parts : Parts) (position : ℕ) (own joined : Verdict)
    (rests again : List Verdict) (old new : SeenSource) (answer : Result (Result (Stored A) Why) OutFault)
    : Type 0 where
  pub reported : IfHeld old.holds (λ bytes. (is : IsArchiveOf bytes rows) → ArePartsOf is.are.records parts
      → IsBlockVerdict (contents is.are.records) position own
      → IsJoinedVerdict (contents is.are.records) position joined → AreRests rests is.are.records
      → IfOk answer (λ judged. IsStoredAt (contents is.are.records) position (judged_seen judged)))
  pub remembers : IfHeld old.holds (λ bytes. (is : IsArchiveOf bytes rows) → ArePartsOf is.are.records parts
      → AreRests rests is.are.records → AreRests again is.are.records)
  pub early : IfErr answer (λ e. IsEarly (Out e))
  pub inside : AsksWithin rows parts old new
  pub keeps : Preserves old new
  pub fails : FailsBy (IsRecordAt rows parts position) answer old new

-- what is stored of an origin, by what is known of all blocks, and what was found of joined ones, which is right
-- afterwards too
pub record JudgesOne {A : Type 0} (rows : List Row) (parts : Parts) (origin : ℕ) (known : List Verdict)
    (found again : JoinedVerdicts A) (old new : SeenSource) (answer : Result (Result (Stored A) Why) OutFault)
    : Type 0 where
  pub reported : IfHeld old.holds (λ bytes. (is : IsArchiveOf bytes rows) → ArePartsOf is.are.records parts
      → AreFound known found is.are.records
      → IfOk answer (λ judged. IsStoredAt (contents is.are.records) origin (judged_seen judged)))
  pub remembers : IfHeld old.holds (λ bytes. (is : IsArchiveOf bytes rows) → ArePartsOf is.are.records parts
      → AreFound known found is.are.records → AreFound known again is.are.records)
  pub early : IfErr answer (λ e. IsEarly (Out e))
  pub inside : AsksWithin rows parts old new
  pub keeps : Preserves old new
  pub fails : FailsBy (IsRecordAt rows parts origin) answer old new

-- the rows, the index and the parts are those of an archive of these bytes, and the position is that of a record
abbrev pub IsIndexedAt : List Row → Indexes → Parts → ℕ → List ℕ → Type 0
IsIndexedAt rows index parts position bytes = (is : IsArchiveOf bytes rows) × AreOf is.are.records index parts
    × (position < length (contents is.are.records))

-- what was found of joined blocks is right afterwards, if it was before
abbrev pub RemembersNext : {A : Type 0} → List Row → Indexes → Parts → List Verdict → JoinedVerdicts A
    → JoinedVerdicts A → SeenSource → Type 0
RemembersNext rows index parts known found again old =
    IfHeld old.holds (λ bytes. (is : IsArchiveOf bytes rows) → AreOf is.are.records index parts
    → AreFound known found is.are.records → AreFound known again is.are.records)

pub record JudgesNext {A : Type 0} (rows : List Row) (index : Indexes) (parts : Parts) (position : ℕ)
    (known : List Verdict) (found again : JoinedVerdicts A) (old new : SeenSource)
    (answer : Result (Outcome A) OutFault) : Type 0 where
  pub reported : IfHeld old.holds (λ bytes. (is : IsArchiveOf bytes rows) → AreOf is.are.records index parts
      → AreFound known found is.are.records
      → IfOk answer (λ o. IsOutcome (contents is.are.records) (outcome_seen o)))
  pub remembers : RemembersNext rows index parts known found again old
  pub chosen : IfOk answer (λ o. o.chosen ≡ position)
  pub early : IfErr answer (λ e. IsEarly (Out e))
  pub inside : AsksInside rows index parts old new
  pub keeps : Preserves old new
  pub fails : FailsBy (IsIndexedAt rows index parts position) answer old new

-- the outcomes so far
pub record AreSoFar {A : Type 0} (records : List Placed) (known : List Verdict) (found : JoinedVerdicts A)
    (outcomes : List (Outcome A)) : Type 0 where
  pub each : AllByRecursion (IsOutcome (contents records)) (map outcome_seen outcomes)
  pub right : AreFound known found records

-- what is answered of the captures at positions, by what is known of blocks
pub record JudgesEach {A B : Type 0} (known : List Verdict) (rows : List Row) (index : Indexes) (parts : Parts)
    (positions : List ℕ) (old new : SeenSource) (answer : Result (Vec (Outcome A) B) OutFault) : Type 0 where
  pub reported : IfHeld old.holds (λ bytes. (is : IsArchiveOf bytes rows) → AreOf is.are.records index parts
      → AreKnownBlocks known is.are.records
      → IfOk answer (λ outcomes. AreOutcomes (contents is.are.records) positions (outcomes_seen outcomes)))
  pub early : IfErr answer (λ e. IsEarly (Out e))
  pub inside : AsksInside rows index parts old new
  pub keeps : Preserves old new
  pub fails : FailsBy (AreIndexedAt rows index parts positions) answer old new

-- a fault as the end of an output of which this number of bytes went out
abbrev pub ended_after : OutFault → ℕ → OutFault
ended_after (Read n) sent = Read sent
ended_after (Write n) sent = Write sent
ended_after (Memory n) sent = Memory sent

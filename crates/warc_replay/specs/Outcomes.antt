-- What is stored at the end of the path from the record at a position, and what it reads of the source. This project's
-- own notion.
use Rattle.std.specs.Prelude.{◌≡◌, ℕ, ◌⊎◌, List, drop, slice_get, Option, Some, None, Result, Ok, Err, IfErr}
use Rattle.std.specs.Io.KnownBytes.{append_known}
use Rattle.warc_frame.specs.Effects.{FailsBy, Preserves}
use Rattle.warc_frame.specs.Failing.{failed_by}
use Rattle.warc_frame.specs.Record.{Record}
use Rattle.warc_frame.specs.Seen.{IfHeld, Seen, SeenSource}
use Rattle.warc_frame.specs.Send.{WentOut, sent_of}
use Rattle.warc_frame.specs.declared.fault.OutFault.{OutFault}
use Rattle.warc_index.specs.Orders.{Indexes}
use Rattle.warc_index.specs.declared.unfound.Unfound.{Unfound}
use Rattle.warc_segment.specs.Kept.{Kept as Parts}
use Rattle.warc_answer.specs.Answers.{path_at}
use Rattle.warc_answer.specs.Replays.{out_result}
use Rattle.warc_answer.specs.Seen.{stored_seen}
use Rattle.warc_answer.specs.Stored.{IsStoredAt, IsStoredOn, StoredBody, joined_text_at}
use Rattle.warc_answer.specs.declared.answer.Path.{Path}
use Rattle.warc_answer.specs.declared.answer.Reason.{Reason as Why}
use Rattle.warc_answer.specs.declared.answer.ReplayFault.TheVariants.{Reason, Out}
use Rattle.warc_answer.specs.declared.stored.Stored.{Stored}
use Rattle.warc_reading.specs.Archive.{IsArchiveOf, contents}
use Rattle.warc_lookup.specs.Indexed.{AreOf, IsIndexedBy}
use Rattle.warc_reading.specs.Row.{Row}
use Rattle.warc_replay.specs.Bodies.{IsCaptureAt, IsEarlyAt, IsOtherAt, IsSilentAt}
use Rattle.warc_replay.specs.Replaying.{AsksInside, ReadsPath}
use Rattle.warc_replay.specs.declared.fault.BodyFault.{BodyFault}
use Rattle.warc_replay.specs.declared.fault.BodyFault.TheVariants.{NoRecord, NoCapture, Replay}
use Rattle.warc_replay.specs.declared.replay.outcome.Outcome.{Outcome}
use Rattle.warc_replay.specs.declared.replay.outcome.StoredAt.{StoredAt}

-- what contracts see of what is stored, or of a reason
abbrev pub judged_seen : {A : Type 0} → Result (Stored A) Why → Result StoredBody Why
judged_seen (Ok s) = Ok (stored_seen s)
judged_seen (Err why) = Err why

-- the position of the origin at the end of a path
abbrev pub origin_on : Result Path Unfound → Option ℕ
origin_on (Ok path) = Some path.given
origin_on (Err unfound) = None

-- what is said of a capture: its position, its origin's, and what is stored of the origin or the reason why nothing is
pub record CaptureSeen : Type 0 where
  pub chosen : ℕ
  pub given : Option ℕ
  pub stored : Result StoredBody Why

abbrev pub outcome_seen : {A : Type 0} → Outcome A → CaptureSeen
outcome_seen o = record { chosen = o.chosen; given = o.given; stored = judged_seen o.stored }

-- that is the outcome of the records, with this capture as the chosen one
pub record IsOutcome (records : List Record) (o : CaptureSeen) : Type 0 where
  pub given : o.given ≡ origin_on (path_at records o.chosen)
  pub stored : IsStoredOn records (path_at records o.chosen) o.stored

-- what is answered of the record at a position
abbrev pub IsOutcomeAt : {A : Type 0} → List Record → ℕ → Result (Outcome A) BodyFault → Type 0
IsOutcomeAt records position (Ok o) =
    IsCaptureAt records position × (o.chosen ≡ position) × IsOutcome records (outcome_seen o)
IsOutcomeAt records position (Err NoRecord) = slice_get records position ≡ None
IsOutcomeAt records position (Err NoCapture) = IsOtherAt records position
IsOutcomeAt records position (Err (Replay (Reason why))) = ⊥
IsOutcomeAt records position (Err (Replay (Out e))) = IsCaptureAt records position × (sent_of e ≡ 0)

-- what the failures of a source go by: a missing record or capture is none
abbrev pub fault_result : {X : Type 0} → Result X BodyFault → Result (Unit {0}) OutFault
fault_result (Ok x) = Ok tt
fault_result (Err NoRecord) = Ok tt
fault_result (Err NoCapture) = Ok tt
fault_result (Err (Replay fault)) = out_result {X = Unit {0}} (Err fault)

-- What is answered of the capture at a position, by rows, an index and parts. Where the archive's source holds its
-- bytes, it is the outcome of its records. Nothing is written, so no fault says that a write failed
pub record JudgesAt {A : Type 0} (rows : List Row) (index : Indexes) (parts : Parts) (position : ℕ)
    (old new : SeenSource) (answer : Result (Outcome A) BodyFault) : Type 0 where
  pub reported : IfHeld old.holds (λ bytes. (is : IsArchiveOf bytes rows) → AreOf is.are.records index parts
      → IsOutcomeAt (contents is.are.records) position answer)
  pub early : IfErr answer IsEarlyAt
  pub reads : ReadsPath 1 rows index parts (λ records. path_at records position) old new
  pub inside : AsksInside rows index parts old new
  pub keeps : Preserves old new
  pub fails : FailsBy (IsIndexedBy rows index parts) (fault_result answer) old new

-- what is said of a body that is written as it is stored
pub record StoredAnswer : Type 0 where
  pub path : Path
  pub stored : StoredBody

abbrev pub answer_seen : {A : Type 0} → Result (StoredAt A) BodyFault → Result StoredAnswer BodyFault
answer_seen (Ok r) = Ok (record { path = r.path; stored = stored_seen r.stored })
answer_seen (Err fault) = Err fault

-- the bytes of what is stored of the origin at a position
abbrev pub stored_text : List Record → ℕ → StoredBody → List ℕ
stored_text records position s = drop s.head_len (joined_text_at records position)

-- a front of what is stored of the origin at a position went out
pub record IsStoredFront (records : List Record) (position : ℕ) (sent : ℕ) (old new : Option (List ℕ)) : Type 0 where
  pub stored : StoredBody
  pub is : IsStoredAt records position (Ok stored)
  pub front : WentOut old (stored_text records position stored) new sent

-- nothing went out, or such a front
abbrev pub IsFrontAt : List Record → ℕ → ℕ → Option (List ℕ) → Option (List ℕ) → Type 0
IsFrontAt records position sent old new =
    ((sent ≡ 0) × (new ≡ old)) ⊎ IsStoredFront records position sent old new

-- what went out of what is stored of the origin of the capture at a position: all of it, or a front
abbrev pub IsStoredOut : List Record → ℕ → Result StoredAnswer BodyFault → Option (List ℕ) → Option (List ℕ) → Type 0
IsStoredOut records position (Ok r) old new =
    IsCaptureAt records position × (path_at records position ≡ Ok r.path)
    × IsStoredAt records r.path.given (Ok r.stored)
    × (new ≡ append_known old (stored_text records r.path.given r.stored))
IsStoredOut records position (Err NoRecord) old new = (slice_get records position ≡ None) × (new ≡ old)
IsStoredOut records position (Err NoCapture) old new = IsOtherAt records position × (new ≡ old)
IsStoredOut records position (Err (Replay (Reason why))) old new =
    IsCaptureAt records position × IsStoredOn records (path_at records position) (Err why) × (new ≡ old)
IsStoredOut records position (Err (Replay (Out e))) old new = IsCaptureAt records position
    × (path : Path) × (path_at records position ≡ Ok path) × IsFrontAt records path.given (sent_of e) old new

-- What is stored of the origin of the capture at a position is written, by rows, an index and parts. Where the
-- archive's source holds its bytes, what goes out and what is answered are as the definition says of its records
pub record GivesStoredAt (rows : List Row) (index : Indexes) (parts : Parts) (position : ℕ) (old new : SeenSource)
    (before after : Seen) (answer : Result StoredAnswer BodyFault) : Type 0 where
  pub reported : IfHeld old.holds (λ bytes. (is : IsArchiveOf bytes rows) → AreOf is.are.records index parts
      → IsStoredOut (contents is.are.records) position answer before.reports after.reports)
  pub reads : ReadsPath 2 rows index parts (λ records. path_at records position) old new
  pub inside : AsksInside rows index parts old new
  pub silent : IsSilentAt answer before.reports after.reports
  pub keeps : Preserves old new
  pub fails : FailsBy (IsIndexedBy rows index parts) (fault_result answer) old new
  pub cause : after.faults ≡ failed_by (fault_result answer) before.faults

-- How `body --stored` and `replay --stored` end: what is stored of the origin of a capture.
use Rattle.std.specs.Prelude.{◌≡◌, ℕ, Bool, true, false, List, [], ◌++◌, codes, Result, Ok, Err, MatchResult, map, ◌⊎◌}
use Rattle.warc_value.specs.Dates.{Instant}
use Rattle.warc_frame.specs.Failing.{HasFailedBy, MayHaveFailedBy, failed_by}
use Rattle.warc_frame.specs.Record.{Record}
use Rattle.warc_frame.specs.Seen.{IfHeld}
use Rattle.warc_index.specs.Captures.{chosen_of}
use Rattle.warc_index.specs.declared.unfound.Unfound.{Unfound}
use Rattle.warc_answer.specs.Answers.{index_of}
use Rattle.warc_answer.specs.Payloads.{read_record}
use Rattle.warc_answer.specs.ReasonText.{reason_text}
use Rattle.warc_answer.specs.Stored.{answer_with}
use Rattle.warc_answer.specs.declared.answer.Reason.TheVariants.{NotFound}
use Rattle.warc_answer.specs.declared.answer.ReplayFault.TheVariants.{Reason, Out as ReplayOut}
use Rattle.warc_replay.specs.Bodies.{IsSilentAt, body_fault_text}
use Rattle.warc_replay.specs.Outcomes.{IsStoredOut, StoredAnswer, fault_result}
use Rattle.warc_replay.specs.declared.fault.BodyFault.{BodyFault}
use Rattle.warc_replay.specs.declared.fault.BodyFault.TheVariants.{NoRecord, NoCapture, Replay}
use Rattle.warc_arguments.specs.declared.status.Status.{Status}
use Rattle.warc_arguments.specs.declared.status.Status.TheVariants.{Done, Found, Failed}
use Rattle.warc_commands.specs.Bodies.{BodyEnds}
use Rattle.warc_commands.specs.Devices.{Devices}
use Rattle.warc_commands.specs.Program.{AreGoodRecordsOf, IsNotOpened, ReplayEnds, Reports, answer_text, reported_line}
use Rattle.warc_commands.specs.Words.{ByWord, read_moment}

-- what is said of a coded body: the fields that say that it is coded
abbrev pub coded_text : Bool → List ℕ → List ℕ
coded_text true codings = codes " coded" ++ codings
coded_text false codings = []

-- the line by what was answered, and the status
abbrev pub stored_line : Result StoredAnswer BodyFault → List ℕ
stored_line (Ok r) =
    answer_text (answer_with r.path r.stored) ++ coded_text r.stored.coded r.stored.codings ++ codes "\n"
stored_line (Err fault) = reported_line (body_fault_text fault)

abbrev pub stored_status : Result StoredAnswer BodyFault → Status
stored_status (Ok r) = Done
stored_status (Err NoRecord) = Found
stored_status (Err NoCapture) = Found
stored_status (Err (Replay (Reason why))) = Found
stored_status (Err (Replay (ReplayOut e))) = Failed

-- what is stored of the origin of the capture at the position, among the records that the bytes spell, went out as was
-- answered
pub record IsStoredGivenOf (position : ℕ) (answer : Result StoredAnswer BodyFault) (bytes : List ℕ)
    (old new : Devices) : Type 0 where
  pub records : List Record
  pub are : AreGoodRecordsOf bytes records
  pub reported : IsStoredOut records position answer old.out.reports new.out.reports
  pub source : HasFailedBy (fault_result answer) old.source.faults new.source.faults

-- the archive was opened, and what is stored was asked for
pub record IsStoredGiven (position : ℕ) (old new : Devices) (status : Status) : Type 0 where
  pub answer : Result StoredAnswer BodyFault
  pub is : IfHeld old.source.holds (λ bytes. IsStoredGivenOf position answer bytes old new)
  pub silent : IsSilentAt answer old.out.reports new.out.reports
  pub source : MayHaveFailedBy (fault_result answer) old.source.faults new.source.faults
  pub failed : new.out.faults ≡ failed_by (fault_result answer) old.out.faults
  pub reported : Reports (stored_line answer) old.err new.err
  pub status_is : status ≡ stored_status answer

-- how `body --stored` ends, by the position of the capture
abbrev pub StoredEnds : ℕ → Devices → Devices → Status → Type 0
StoredEnds position old new status = IsStoredGiven position old new status ⊎ IsNotOpened old new status

-- the capture that is chosen for a URI as of a moment among the records that the bytes spell, or why there is none
pub record IsChosenOf (uri : List ℕ) (moment : Instant) (found : Result ℕ Unfound) (bytes : List ℕ) : Type 0 where
  pub records : List Record
  pub are : AreGoodRecordsOf bytes records
  pub chosen : found ≡ chosen_of (index_of (map read_record records)) uri moment

-- no capture is chosen: nothing was written
pub record IsUnfound (unfound : Unfound) (old new : Devices) (status : Status) : Type 0 where
  pub sound : new.source.faults ≡ old.source.faults
  pub untouched : new.out ≡ old.out
  pub reported : Reports (reported_line (reason_text (NotFound unfound))) old.err new.err
  pub status_is : status ≡ Found

-- the archive was opened, and what is stored was asked for, of the capture that is chosen
pub record IsStoredReplayed (uri : List ℕ) (moment : Instant) (old new : Devices) (status : Status) : Type 0 where
  pub found : Result ℕ Unfound
  pub is : IfHeld old.source.holds (IsChosenOf uri moment found)
  pub ends : MatchResult found (λ position. IsStoredGiven position old new status)
      (λ unfound. IsUnfound unfound old new status)

-- how `replay --stored` ends, as of an instant
abbrev pub StoredReplayEnds : List ℕ → Instant → Devices → Devices → Status → Type 0
StoredReplayEnds uri moment old new status = IsStoredReplayed uri moment old new status ⊎ IsNotOpened old new status

-- how `replay` ends as of an instant, with `--stored` or without it
abbrev pub ReplayedAs : Bool → List ℕ → Instant → Devices → Devices → Status → Type 0
ReplayedAs false = ReplayEnds
ReplayedAs true = StoredReplayEnds

-- and as of the first instant of the date that its word says
abbrev pub DatedAs : Bool → List ℕ → List ℕ → Devices → Devices → Status → Type 0
DatedAs stored date uri = ByWord (ReplayedAs stored uri) (read_moment date)

-- how `body` ends, with `--stored` or without it
abbrev pub GivenAs : Bool → ℕ → Devices → Devices → Status → Type 0
GivenAs false = BodyEnds
GivenAs true = StoredEnds

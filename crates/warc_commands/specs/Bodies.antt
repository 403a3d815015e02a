-- How `body` ends: what the capture at a position gives.
use Rattle.std.specs.Prelude.{◌≡◌, ℕ, List, ◌++◌, codes, Result, Ok, Err, ◌⊎◌}
use Rattle.warc_frame.specs.Failing.{HasFailedBy, MayHaveFailedBy, failed_by}
use Rattle.warc_frame.specs.Record.{Record}
use Rattle.warc_frame.specs.Seen.{IfHeld}
use Rattle.warc_answer.specs.declared.answer.Answer.{Answer}
use Rattle.warc_replay.specs.Bodies.{IsBodyAt, IsSilentAt, body_fault_text, body_result}
use Rattle.warc_replay.specs.declared.fault.BodyFault.{BodyFault}
use Rattle.warc_replay.specs.declared.fault.BodyFault.TheVariants.{NoRecord, NoCapture, Replay}
use Rattle.warc_arguments.specs.declared.status.Status.{Status}
use Rattle.warc_arguments.specs.declared.status.Status.TheVariants.{Done, Found}
use Rattle.warc_commands.specs.Devices.{Devices}
use Rattle.warc_commands.specs.Program.{AreGoodRecordsOf, IsNotOpened, Reports, answer_text, replay_status, reported_line}

-- the line that `body` writes by what was answered, and its status
abbrev pub body_line : Result Answer BodyFault → List ℕ
body_line (Ok answer) = answer_text answer ++ codes "\n"
body_line (Err fault) = reported_line (body_fault_text fault)

abbrev pub body_status : Result Answer BodyFault → Status
body_status (Ok answer) = Done
body_status (Err NoRecord) = Found
body_status (Err NoCapture) = Found
body_status (Err (Replay fault)) = replay_status (Err fault)

-- the body that the capture at the position gives among the records that the bytes spell went out as was answered
pub record IsBodyOf (position : ℕ) (answer : Result Answer BodyFault) (bytes : List ℕ) (old new : Devices) : Type 0
  where
    pub records : List Record
    pub are : AreGoodRecordsOf bytes records
    pub reported : IsBodyAt records position answer old.out.reports new.out.reports
    pub source : HasFailedBy (body_result answer) old.source.faults new.source.faults

-- the archive was opened, and the body at a position was asked for
pub record IsBodyGiven (position : ℕ) (old new : Devices) (status : Status) : Type 0 where
  pub answer : Result Answer BodyFault
  pub is : IfHeld old.source.holds (λ bytes. IsBodyOf position answer bytes old new)
  pub silent : IsSilentAt answer old.out.reports new.out.reports
  pub source : MayHaveFailedBy (body_result answer) old.source.faults new.source.faults
  pub failed : new.out.faults ≡ failed_by (body_result answer) old.out.faults
  pub reported : Reports (body_line answer) old.err new.err
  pub status_is : status ≡ body_status answer

-- how `body` ends, by the position of the capture
abbrev pub BodyEnds : ℕ → Devices → Devices → Status → Type 0
BodyEnds position old new status = IsBodyGiven position old new status ⊎ IsNotOpened old new status

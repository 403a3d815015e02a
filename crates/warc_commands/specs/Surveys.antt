-- How `survey` ends.
use Rattle.std.specs.Prelude.{◌≡◌, ℕ, ◌⊎◌, Err, ⊤}
use Rattle.warc_frame.specs.Effects.{FailsBy}
use Rattle.warc_frame.specs.Failing.{failed_with}
use Rattle.warc_frame.specs.FaultText.{out_fault_text}
use Rattle.warc_frame.specs.Seen.{IfHeld}
use Rattle.warc_frame.specs.Send.{sent_of}
use Rattle.warc_frame.specs.declared.fault.OutFault.{OutFault}
use Rattle.warc.specs.Survey.{IsSurveyFront, IsSurveyOut}
use Rattle.warc_arguments.specs.declared.status.Status.{Status}
use Rattle.warc_arguments.specs.declared.status.Status.TheVariants.{Done, Failed}
use Rattle.warc_commands.specs.Devices.{Devices}
use Rattle.warc_commands.specs.Program.{IsNotOpened, Reports, reported_line}

-- all of the survey went out
pub record IsSurveyReported (old new : Devices) (status : Status) : Type 0 where
  pub is : IfHeld old.source.holds (λ bytes. IsSurveyOut bytes old.out new.out)
  pub unfailed : new.out.faults ≡ old.out.faults
  pub sound : new.source.faults ≡ old.source.faults
  pub silent : new.err ≡ old.err
  pub status_is : status ≡ Done

-- a read, a write or an allocation failed after the archive was opened: a front of the survey went out
pub record IsSurveyCutOff (old new : Devices) (status : Status) : Type 0 where
  pub fault : OutFault
  pub is : IfHeld old.source.holds (λ bytes. IsSurveyFront bytes (sent_of fault) old.out new.out)
  pub fails : FailsBy {X = ℕ} (λ bytes. ⊤) (Err fault) old.source new.source
  pub failed : new.out.faults ≡ failed_with fault old.out.faults
  pub reported : Reports (reported_line (out_fault_text fault)) old.err new.err
  pub status_is : status ≡ Failed

abbrev pub SurveyEnds : Devices → Devices → Status → Type 0
SurveyEnds old new status =
    IsSurveyReported old new status ⊎ (IsNotOpened old new status ⊎ IsSurveyCutOff old new status)

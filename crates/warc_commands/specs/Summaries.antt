-- How `summary` ends.
use Rattle.std.specs.Prelude.{◌≡◌, ℕ, ◌⊎◌, Bool, List, if◌then◌else◌}
use Rattle.std.specs.Io.KnownBytes.{append_known}
use Rattle.warc_frame.specs.Count.{raised}
use Rattle.warc_frame.specs.FaultText.{out_fault_text}
use Rattle.warc_frame.specs.Seen.{IfHeld}
use Rattle.warc_frame.specs.Send.{WentOut}
use Rattle.warc_frame.specs.declared.fault.OutFault.TheVariants.{Write}
use Rattle.warc_json.specs.Summaries.{json_summary}
use Rattle.warc_reading.specs.Row.{Row}
use Rattle.warc_judged.specs.Summary.{AreFlagged, Flags, IsSummaryOf, summary_text}
use Rattle.warc_judged.specs.declared.summary.Summary.{Summary}
use Rattle.warc_arguments.specs.declared.status.Status.{Status}
use Rattle.warc_arguments.specs.declared.status.Status.TheVariants.{Done, Failed}
use Rattle.warc_commands.specs.Devices.{Devices}
use Rattle.warc_commands.specs.Program.{IsNotOpened, Reports, reported_line}

-- the lines of `summary`: a number or a date each, or with `--json` one object
abbrev pub summarized_as : Bool → Summary → List ℕ
summarized_as json summary = if json then json_summary summary else summary_text summary

-- all lines of `summary` went out, and no write failed
pub record IsSummaryReported (json : Bool) (old new : Devices) (status : Status) : Type 0 where
  pub rows : List Row
  pub flags : Flags
  pub are : IfHeld old.source.holds (λ bytes. AreFlagged bytes rows flags)
  pub summary : Summary
  pub is : IsSummaryOf rows flags summary
  pub reported : new.out.reports ≡ append_known old.out.reports (summarized_as json summary)
  pub unfailed : new.out.faults ≡ old.out.faults
  pub sound : new.source.faults ≡ old.source.faults
  pub silent : new.err ≡ old.err
  pub status_is : status ≡ Done

-- a write failed: a front of the lines went out
pub record IsSummaryCutOff (json : Bool) (old new : Devices) (status : Status) : Type 0 where
  pub rows : List Row
  pub flags : Flags
  pub are : IfHeld old.source.holds (λ bytes. AreFlagged bytes rows flags)
  pub summary : Summary
  pub is : IsSummaryOf rows flags summary
  pub sent : ℕ
  pub front : WentOut old.out.reports (summarized_as json summary) new.out.reports sent
  pub failed : new.out.faults ≡ raised old.out.faults
  pub sound : new.source.faults ≡ old.source.faults
  pub reported : Reports (reported_line (out_fault_text (Write sent))) old.err new.err
  pub status_is : status ≡ Failed

abbrev pub SummaryEnds : Bool → Devices → Devices → Status → Type 0
SummaryEnds json old new status =
    IsSummaryReported json old new status ⊎ (IsNotOpened old new status ⊎ IsSummaryCutOff json old new status)

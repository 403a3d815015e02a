-- How `instant` ends.
use Rattle.std.specs.Prelude.{◌≡◌, ℕ, ◌⊎◌, List, ◌++◌, codes}
use Rattle.std.specs.Io.KnownBytes.{append_known}
use Rattle.warc_frame.specs.Count.{raised}
use Rattle.warc_frame.specs.FaultText.{out_fault_text}
use Rattle.warc_frame.specs.Send.{WentOut}
use Rattle.warc_frame.specs.declared.fault.OutFault.TheVariants.{Write}
use Rattle.warc_replay.specs.Captures.{full_date}
use Rattle.warc_arguments.specs.declared.status.Status.{Status}
use Rattle.warc_arguments.specs.declared.status.Status.TheVariants.{Done, Failed}
use Rattle.warc_commands.specs.Devices.{Devices, Outputs, outputs_of}
use Rattle.warc_commands.specs.Program.{Reports, reported_line}

-- the line of a date: its instant in full
abbrev pub instant_line : List ℕ → List ℕ
instant_line date = full_date date ++ codes "\n"

-- the line went out
pub record IsInstantWritten (date : List ℕ) (old new : Outputs) (status : Status) : Type 0 where
  pub reported : new.out.reports ≡ append_known old.out.reports (instant_line date)
  pub unfailed : new.out.faults ≡ old.out.faults
  pub silent : new.err ≡ old.err
  pub status_is : status ≡ Done

-- a write failed: a front of the line went out
pub record IsInstantCutOff (date : List ℕ) (old new : Outputs) (status : Status) : Type 0 where
  pub sent : ℕ
  pub front : WentOut old.out.reports (instant_line date) new.out.reports sent
  pub failed : new.out.faults ≡ raised old.out.faults
  pub reported : Reports (reported_line (out_fault_text (Write sent))) old.err new.err
  pub status_is : status ≡ Failed

abbrev pub IsInstantShown : List ℕ → Outputs → Outputs → Status → Type 0
IsInstantShown date old new status = IsInstantWritten date old new status ⊎ IsInstantCutOff date old new status

-- how `instant` ends for a date; nothing is read
abbrev pub InstantEnds : List ℕ → Devices → Devices → Status → Type 0
InstantEnds date old new status = (new.source ≡ old.source)
    × IsInstantShown date (outputs_of old.out old.err) (outputs_of new.out new.err) status

-- How `fixity` ends.
use Rattle.std.specs.Prelude.{◌≡◌, ℕ, ◌⊎◌, List, nat_lt, if◌then◌else◌}
use Rattle.std.specs.Io.KnownBytes.{append_known}
use Rattle.warc_frame.specs.Count.{raised}
use Rattle.warc_frame.specs.FaultText.{out_fault_text}
use Rattle.warc_frame.specs.Seen.{IfHeld}
use Rattle.warc_frame.specs.Send.{WentOut}
use Rattle.warc_frame.specs.declared.fault.OutFault.TheVariants.{Write}
use Rattle.warc_reading.specs.Row.{Row}
use Rattle.warc_judged.specs.Fixity.{AreDigested, Judgements, counts_of, fixity_text}
use Rattle.warc_judged.specs.declared.digests.Counts.{Counts}
use Rattle.warc_arguments.specs.declared.status.Status.{Status}
use Rattle.warc_arguments.specs.declared.status.Status.TheVariants.{Done, Found, Failed, Unchecked}
use Rattle.warc_commands.specs.Devices.{Devices}
use Rattle.warc_commands.specs.Program.{IsNotOpened, Reports, reported_line}

-- the status where all was written: by whether a block is bad, and whether one can't be checked
abbrev pub fixity_status : Counts → Status
fixity_status counts = if nat_lt 0 counts.bad then Found else if nat_lt 0 counts.unchecked then Unchecked else Done

-- all lines of `fixity` went out
pub record IsFixityReported (old new : Devices) (status : Status) : Type 0 where
  pub rows : List Row
  pub judged : Judgements
  pub are : IfHeld old.source.holds (λ bytes. AreDigested bytes rows judged)
  pub reported : new.out.reports ≡ append_known old.out.reports (fixity_text rows judged)
  pub unfailed : new.out.faults ≡ old.out.faults
  pub sound : new.source.faults ≡ old.source.faults
  pub silent : new.err ≡ old.err
  pub status_is : status ≡ fixity_status (counts_of judged.verdicts)
  pub status_in : (status ≡ Done) ⊎ ((status ≡ Found) ⊎ (status ≡ Unchecked))

-- a write failed: a front of the lines went out
pub record IsFixityCutOff (old new : Devices) (status : Status) : Type 0 where
  pub rows : List Row
  pub judged : Judgements
  pub are : IfHeld old.source.holds (λ bytes. AreDigested bytes rows judged)
  pub sent : ℕ
  pub front : WentOut old.out.reports (fixity_text rows judged) new.out.reports sent
  pub failed : new.out.faults ≡ raised old.out.faults
  pub sound : new.source.faults ≡ old.source.faults
  pub reported : Reports (reported_line (out_fault_text (Write sent))) old.err new.err
  pub status_is : status ≡ Failed

abbrev pub FixityEnds : Devices → Devices → Status → Type 0
FixityEnds old new status =
    IsFixityReported old new status ⊎ (IsNotOpened old new status ⊎ IsFixityCutOff old new status)

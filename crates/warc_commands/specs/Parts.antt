-- How the commands end that give a part of the record at a position.
use Rattle.std.specs.Prelude.{◌≡◌, ℕ, ◌⊎◌, List, option_map, slice_get, Result, Err}
use Rattle.warc_frame.specs.Failing.{HasFailedBy, MayHaveFailedBy, failed_by}
use Rattle.warc_frame.specs.Seen.{IfHeld}
use Rattle.warc_reading.specs.Archive.{IsArchiveOf}
use Rattle.warc_reading.specs.Row.{Row}
use Rattle.warc_replay.specs.Parts.{IsGiven, extract_result, part_text}
use Rattle.warc_replay.specs.declared.fault.ExtractFault.{ExtractFault}
use Rattle.warc_replay.specs.declared.fault.ExtractFault.TheVariants.{NoRecord}
use Rattle.warc_replay.specs.declared.record.part.Part.{Part}
use Rattle.warc_arguments.specs.declared.status.Status.{Status}
use Rattle.warc_commands.specs.Devices.{Devices}
use Rattle.warc_commands.specs.Program.{IsNotOpened, ReportsIf, extract_line, extract_status}

-- the part of the record at the position, of those that the bytes spell, went out as was answered
pub record IsPartOf (part : Part) (position : ℕ) (answer : Result ℕ ExtractFault) (bytes : List ℕ)
    (old new : Devices) : Type 0 where
  pub rows : List Row
  pub is : IsArchiveOf bytes rows
  pub reported : IsGiven (option_map (λ p. part_text part bytes p) (slice_get is.are.records position)) answer
      old.out.reports new.out.reports
  pub source : HasFailedBy (extract_result answer) old.source.faults new.source.faults

-- the archive was opened, and a part of a record was asked for
pub record IsPartGiven (part : Part) (position : ℕ) (old new : Devices) (status : Status) : Type 0 where
  pub answer : Result ℕ ExtractFault
  pub is : IfHeld old.source.holds (λ bytes. IsPartOf part position answer bytes old new)
  pub silent : answer ≡ Err NoRecord → new.out.reports ≡ old.out.reports
  pub source : MayHaveFailedBy (extract_result answer) old.source.faults new.source.faults
  pub failed : new.out.faults ≡ failed_by (extract_result answer) old.out.faults
  pub reported : ReportsIf (extract_line answer) old.err new.err
  pub status_is : status ≡ extract_status answer

-- how giving a part of the record at a position ends
abbrev pub PartEnds : Part → ℕ → Devices → Devices → Status → Type 0
PartEnds part position old new status = IsPartGiven part position old new status ⊎ IsNotOpened old new status

-- How `salvage` ends.
use Rattle.std.specs.Prelude.{◌≡◌, ℕ, ◌^◌, ◌<◌, ◌⊎◌, List, ◌++◌, length, codes, decimal, Option, Some, None, Err}
use Rattle.std.specs.Io.KnownBytes.{append_known}
use Rattle.warc_frame.specs.Effects.{FailsBy}
use Rattle.warc_frame.specs.Failing.{failed_with}
use Rattle.warc_frame.specs.FaultText.{out_fault_text}
use Rattle.warc_frame.specs.Seen.{IfHeld, Seen, SeenSource}
use Rattle.warc_frame.specs.Send.{WentOut, sent_of}
use Rattle.warc_frame.specs.declared.fault.Fault.{Fault}
use Rattle.warc_frame.specs.declared.fault.OutFault.{OutFault}
use Rattle.warc_reading.specs.Archive.{IsArchiveOf}
use Rattle.warc_reading.specs.Opening.{Opens}
use Rattle.warc_reading.specs.Row.{Row}
use Rattle.warc.specs.Front.{AreRowsOfFront, refused_by}
use Rattle.warc_arguments.specs.declared.status.Status.{Status}
use Rattle.warc_arguments.specs.declared.status.Status.TheVariants.{Done, Failed}
use Rattle.warc_commands.specs.Devices.{Devices}
use Rattle.warc_commands.specs.Program.{Reports, fault_line, status_of_kind, reported_line}

-- a line of how many records and bytes went out
abbrev pub amount_line : List ℕ → ℕ → ℕ → List ℕ
amount_line word records bytes =
    reported_line (word ++ codes " " ++ decimal records ++ codes " records, " ++ decimal bytes ++ codes " bytes")

-- what is reported: of a good archive one line, and else the fault's line and then one
abbrev pub ReportsAmount : Option Fault → ℕ → ℕ → Seen → Seen → Type 0
ReportsAmount None records bytes old new = Reports (amount_line (codes "good") records bytes) old new
ReportsAmount (Some f) records bytes old new =
    (mid : Seen) × Reports (fault_line f) old mid × Reports (amount_line (codes "salvaged") records bytes) mid new

-- the status: of the fault, if there is one
abbrev pub salvage_status : Option Fault → Status
salvage_status None = Done
salvage_status (Some f) = status_of_kind f.kind

-- the good records that the bytes begin with, before this fault, are these bytes
pub record IsFrontText (bytes : List ℕ) (found : Option Fault) (rows : List Row) (text : List ℕ) : Type 0 where
  pub front : AreRowsOfFront bytes found rows
  pub is : IsArchiveOf text rows

-- all of them went out
pub record IsSalvageOf (bytes : List ℕ) (found : Option Fault) (rows : List Row) (size : ℕ) (old new : Seen)
    : Type 0 where
  pub text : List ℕ
  pub front : IsFrontText bytes found rows text
  pub reported : new.reports ≡ append_known old.reports text
  pub size_is : size ≡ length text

-- a front of them did
pub record IsSalvageFront (bytes : List ℕ) (found : Option Fault) (rows : List Row) (sent : ℕ) (old new : Seen)
    : Type 0 where
  pub text : List ℕ
  pub front : IsFrontText bytes found rows text
  pub out : WentOut old.reports text new.reports sent

-- the records before the first fault were written, of a source of fewer than 2^64 bytes; opening the whole is refused
-- by that fault, if by any
pub record IsSalvaged (old new : Devices) (status : Status) : Type 0 where
  pub rows : List Row
  pub size : ℕ
  pub found : Option Fault
  pub mid : SeenSource
  pub opens : Opens IsArchiveOf old.source mid (refused_by found rows)
  pub is : IfHeld old.source.holds (λ bytes. length bytes < 2 ^ 64 → IsSalvageOf bytes found rows size old.out new.out)
  pub unfailed : new.out.faults ≡ old.out.faults
  pub sound : new.source.faults ≡ mid.faults
  pub reported : ReportsAmount found (length rows) size old.err new.err
  pub status_is : status ≡ salvage_status found

-- a read or a write failed while they were written
pub record IsSalvageCutOff (old new : Devices) (status : Status) : Type 0 where
  pub rows : List Row
  pub found : Option Fault
  pub mid : SeenSource
  pub opens : Opens IsArchiveOf old.source mid (refused_by found rows)
  pub fault : OutFault
  pub is : IfHeld old.source.holds (λ bytes. length bytes < 2 ^ 64
      → IsSalvageFront bytes found rows (sent_of fault) old.out new.out)
  pub fails : FailsBy {X = ℕ} (λ bytes. length bytes < 2 ^ 64) (Err fault) mid new.source
  pub failed : new.out.faults ≡ failed_with fault old.out.faults
  pub reported : Reports (reported_line (out_fault_text fault)) old.err new.err
  pub status_is : status ≡ Failed

abbrev pub SalvageEnds : Devices → Devices → Status → Type 0
SalvageEnds old new status = IsSalvaged old new status ⊎ IsSalvageCutOff old new status

-- How `select` ends.
use Rattle.std.specs.Prelude.{◌≡◌, ◌↔◌, ℕ, ◌<◌, ◌⊎◌, Bool, true, false, List, [], ◌++◌, find, length, codes, decimal, nat_le, Option, Some, None, Err, All, Contains}
use Rattle.std.specs.Io.KnownBytes.{append_known}
use Rattle.std.specs.List.Sorted.{IsStrictlyIncreasing}
use Rattle.warc_frame.specs.Effects.{FailsBy, IsOfDevice}
use Rattle.warc_frame.specs.Failing.{failed_with}
use Rattle.warc_frame.specs.FaultText.{out_fault_text}
use Rattle.warc_frame.specs.Seen.{IfHeld, SeenSource}
use Rattle.warc_frame.specs.Send.{WentOut, sent_of}
use Rattle.warc_frame.specs.declared.fault.OutFault.{OutFault}
use Rattle.warc_frame.specs.declared.fault.OutFault.TheVariants.{Memory}
use Rattle.warc_reading.specs.Archive.{IsArchiveOf}
use Rattle.warc_reading.specs.Row.{Row}
use Rattle.warc_rewrite.specs.Selecting.{AreOthers, ArePositions, ReadsRecords, at_positions, selected_text}
use Rattle.warc_arguments.specs.declared.status.Status.{Status}
use Rattle.warc_arguments.specs.declared.status.Status.TheVariants.{Done, Found, Failed}
use Rattle.warc_commands.specs.Devices.{Devices}
use Rattle.warc_commands.specs.Program.{IsNotOpened, Reports, reported_line}
use Rattle.warc_commands.specs.Words.{IsBadWord, IsStarved}
use Rattle.warc_commands.specs.declared.lists.ListFault.{ListFault}
use Rattle.warc_commands.specs.declared.lists.ListFault.TheVariants.{Line, Memory as NoMemory}

-- positions in their order, each once, which are the named ones
pub record AreTheNamed (count : ℕ) (named positions : List ℕ) : Type 0 where
  pub are : ArePositions count positions
  pub each : (p : ℕ) → Contains positions p ↔ Contains named p

-- the positions of what is written, of a number of records: the named ones, or all others
abbrev pub AreWanted : Bool → ℕ → List ℕ → List ℕ → Type 0
AreWanted false count named chosen = AreTheNamed count named chosen
AreWanted true count named chosen = AreOthers count named chosen

-- the line of how many records and bytes went out, with a text after these
abbrev pub selected_line : ℕ → ℕ → List ℕ → List ℕ
selected_line records bytes more =
    reported_line
    (codes "selected " ++ decimal records ++ codes " records, " ++ decimal bytes ++ codes " bytes" ++ more)

-- the records at these positions of an archive of these rows went out, and how much is reported, with a text after it
pub record IsSelectionSent (more : List ℕ) (rows : List Row) (positions : List ℕ) (old new : Devices) (status : Status)
    : Type 0 where
  pub size : ℕ
  pub reported : IfHeld old.source.holds (λ bytes. IsArchiveOf bytes rows
      → new.out.reports ≡ append_known old.out.reports (selected_text rows positions bytes))
  pub size_is : IfHeld old.source.holds (λ bytes. IsArchiveOf bytes rows
      → size ≡ length (selected_text rows positions bytes))
  pub unfailed : new.out.faults ≡ old.out.faults
  pub sound : new.source.faults ≡ old.source.faults
  pub printed : Reports (selected_line (length positions) size more) old.err new.err
  pub status_is : status ≡ Done

-- a read or a write failed, and a front of them went out
pub record IsSelectionCut (rows : List Row) (positions : List ℕ) (old new : Devices) (status : Status) : Type 0 where
  pub fault : OutFault
  pub device : IsOfDevice fault
  pub front : IfHeld old.source.holds (λ bytes. IsArchiveOf bytes rows
      → WentOut old.out.reports (selected_text rows positions bytes) new.out.reports (sent_of fault))
  pub fails : FailsBy {X = ℕ} (λ bytes. IsArchiveOf bytes rows) (Err fault) old.source new.source
  pub failed : new.out.faults ≡ failed_with fault old.out.faults
  pub reported : Reports (reported_line (out_fault_text fault)) old.err new.err
  pub status_is : status ≡ Failed

abbrev pub SendEnds : List ℕ → List Row → List ℕ → Devices → Devices → Status → Type 0
SendEnds more rows positions old new status =
    IsSelectionSent more rows positions old new status ⊎ IsSelectionCut rows positions old new status

-- each named position has a record, and those that are to be written were
pub record IsSelected (except : Bool) (named : List ℕ) (rows : List Row) (old new : Devices) (status : Status)
    : Type 0 where
  pub there : All (λ p. p < length rows) named
  pub chosen : List ℕ
  pub are : AreWanted except (length rows) named chosen
  pub ends : SendEnds [] rows chosen old new status

-- there is no record at a named position, of which the first is reported: nothing was written
pub record IsAbsent (named : List ℕ) (rows : List Row) (old new : Devices) (status : Status) : Type 0 where
  pub absent : ℕ
  pub first : find (λ p. nat_le (length rows) p) named ≡ Some absent
  pub sound : new.source.faults ≡ old.source.faults
  pub untouched : new.out ≡ old.out
  pub reported : Reports (reported_line (codes "E1 NoRecord " ++ decimal absent)) old.err new.err
  pub status_is : status ≡ Found

-- an allocation failed before anything was written
pub record IsUnchosen (old new : Devices) (status : Status) : Type 0 where
  pub sound : new.source.faults ≡ old.source.faults
  pub untouched : new.out ≡ old.out
  pub reported : Reports (reported_line (out_fault_text (Memory 0))) old.err new.err
  pub status_is : status ≡ Failed

-- how it ends after an archive of these rows was opened
abbrev pub ChosenEnds : Bool → List ℕ → List Row → Devices → Devices → Status → Type 0
ChosenEnds except named rows old new status =
    IsSelected except named rows old new status ⊎ (IsAbsent named rows old new status ⊎ IsUnchosen old new status)

-- the archive was opened
pub record IsOpenedToSelect (except : Bool) (named : List ℕ) (old new : Devices) (status : Status) : Type 0 where
  pub rows : List Row
  pub are : IfHeld old.source.holds (λ bytes. IsArchiveOf bytes rows)
  pub ends : ChosenEnds except named rows old new status

-- how `select` ends, by the number of the first bad line of its list, if there is one, and by the positions that the
-- lines name
abbrev pub SelectEnds : Bool → Option ℕ → List ℕ → Devices → Devices → Status → Type 0
SelectEnds except (Some line) named old new status =
    IsBadWord (codes "bad position in line " ++ decimal line) old new status ⊎ IsStarved old new status
SelectEnds except None named old new status =
    IsOpenedToSelect except named old new status ⊎ (IsNotOpened old new status ⊎ IsStarved old new status)

-- some records of these rows were read, each byte at most once, and nothing else
pub record ReadsSome (rows : List Row) (old new : SeenSource) : Type 0 where
  pub positions : List ℕ
  pub ascending : IsStrictlyIncreasing positions
  pub reads : ReadsRecords (at_positions rows positions) old new

-- why a list names no positions
abbrev pub list_fault_text : ListFault → List ℕ
list_fault_text (Line number) = codes "bad position in line " ++ decimal number
list_fault_text NoMemory = out_fault_text (Memory 0)

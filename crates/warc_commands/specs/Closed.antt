-- How `select --closed` ends.
use Rattle.std.specs.Prelude.{◌≡◌, ℕ, ◌-◌, ◌<◌, ◌⊎◌, Bool, true, false, List, ◌++◌, length, codes, decimal, Option, Some, None, Result, Err, All}
use Rattle.std.specs.declared.vec.Vec.{Vec}
use Rattle.warc_frame.specs.Effects.{FailsBy}
use Rattle.warc_frame.specs.FaultText.{out_fault_text}
use Rattle.warc_frame.specs.Seen.{IfHeld, SeenSource}
use Rattle.warc_frame.specs.declared.fault.OutFault.{OutFault}
use Rattle.warc_index.specs.Orders.{Indexes}
use Rattle.warc_segment.specs.Joined.{ReadRecord}
use Rattle.warc_segment.specs.Kept.{Kept as Parts}
use Rattle.warc_answer.specs.Seen.{IsEarly}
use Rattle.warc_answer.specs.declared.answer.ReplayFault.TheVariants.{Out}
use Rattle.warc_reading.specs.Archive.{IsArchiveOf}
use Rattle.warc_reading.specs.Rereading.{ReadsHeads}
use Rattle.warc_reading.specs.Row.{Row}
use Rattle.warc_rewrite.specs.Closing.{AreWithNeeded, AreWithout}
use Rattle.warc_rewrite.specs.Closure.{GivesPositions, records_read}
use Rattle.warc_rewrite.specs.Selecting.{ArePositions}
use Rattle.warc_arguments.specs.declared.status.Status.{Status}
use Rattle.warc_arguments.specs.declared.status.Status.TheVariants.{Failed}
use Rattle.warc_commands.specs.Devices.{Devices}
use Rattle.warc_commands.specs.Program.{IsNotOpened, Reports, reported_line}
use Rattle.warc_commands.specs.Selected.{AreTheNamed, IsAbsent, ReadsSome, SelectEnds, SendEnds}
use Rattle.warc_commands.specs.Words.{IsBadWord, IsStarved}

-- the positions of what is written: the named ones and those of all that their records need, or those of the records
-- that need no named one
abbrev pub AreWantedClosed : Bool → List ReadRecord → List ℕ → List ℕ → Type 0
AreWantedClosed false all once chosen = AreWithNeeded all once chosen
AreWantedClosed true all once chosen = AreWithout all once chosen

-- these are given of an archive of these rows, or none
abbrev pub GivesClosed : {A : Type 0} → Bool → List Row → Indexes → Parts → List ℕ → SeenSource → SeenSource
    → Result (Vec ℕ A) OutFault → Type 0
GivesClosed except rows index parts once =
    GivesPositions (λ all given. AreWantedClosed except all once given) rows index parts

-- how many records go the way of the named ones, by the numbers of all records, of the named and of the written ones:
-- they are written beside the named ones, or left out besides
abbrev pub beside : Bool → ℕ → ℕ → ℕ → ℕ
beside false count named written = written - named
beside true count named written = count - named - written

-- the end of the line that reports how much was written
abbrev pub beside_text : Bool → ℕ → List ℕ
beside_text false n = codes ", " ++ decimal n ++ codes " of them needed"
beside_text true n = codes ", " ++ decimal n ++ codes " left out besides"

-- the positions are right for an archive of these bytes
pub record IsClosureOf (except : Bool) (rows : List Row) (once chosen bytes : List ℕ) : Type 0 where
  pub is : IsArchiveOf bytes rows
  pub are : AreWantedClosed except (records_read is.are.records) once chosen

-- what is to be written was found: it went out, or a front of it
pub record IsClosureSent (except : Bool) (once : List ℕ) (rows : List Row) (old new : Devices) (status : Status)
    : Type 0 where
  pub chosen : List ℕ
  pub positions : ArePositions (length rows) chosen
  pub are : IfHeld old.source.holds (IsClosureOf except rows once chosen)
  pub ends : SendEnds (beside_text except (beside except (length rows) (length once) (length chosen))) rows chosen old
      new status

-- a read or an allocation failed before anything was written
pub record IsUnclosed (rows : List Row) (old new : Devices) (status : Status) : Type 0 where
  pub fault : OutFault
  pub early : IsEarly (Out fault)
  pub fails : FailsBy {X = ℕ} (λ bytes. IsArchiveOf bytes rows) (Err fault) old.source new.source
  pub untouched : new.out ≡ old.out
  pub reported : Reports (reported_line (out_fault_text fault)) old.err new.err
  pub status_is : status ≡ Failed

-- how it ends by the named positions in their order, each once
abbrev pub ClosureEnds : Bool → List ℕ → List Row → Devices → Devices → Status → Type 0
ClosureEnds except once rows old new status =
    IsClosureSent except once rows old new status ⊎ IsUnclosed rows old new status

-- each named position has a record
pub record IsNamedClosed (except : Bool) (named : List ℕ) (rows : List Row) (old new : Devices) (status : Status)
    : Type 0 where
  pub there : All (λ p. p < length rows) named
  pub once : List ℕ
  pub once_are : AreTheNamed (length rows) named once
  pub ends : ClosureEnds except once rows old new status

-- how it ends after an archive of these rows was opened
abbrev pub NamedEnds : Bool → List ℕ → List Row → Devices → Devices → Status → Type 0
NamedEnds except named rows old new status =
    IsNamedClosed except named rows old new status ⊎ IsAbsent named rows old new status

-- the archive was opened
pub record IsOpenedToClose (except : Bool) (named : List ℕ) (old new : Devices) (status : Status) : Type 0 where
  pub rows : List Row
  pub are : IfHeld old.source.holds (λ bytes. IsArchiveOf bytes rows)
  pub ends : NamedEnds except named rows old new status

-- how `select --closed` ends, as `SelectEnds` says how `select` ends
abbrev pub ClosedEnds : Bool → Option ℕ → List ℕ → Devices → Devices → Status → Type 0
ClosedEnds except (Some line) named old new status =
    IsBadWord (codes "bad position in line " ++ decimal line) old new status ⊎ IsStarved old new status
ClosedEnds except None named old new status =
    IsOpenedToClose except named old new status ⊎ (IsNotOpened old new status ⊎ IsStarved old new status)

-- how `select` ends, with `--closed` or without it
abbrev pub SelectedAs : Bool → Bool → Option ℕ → List ℕ → Devices → Devices → Status → Type 0
SelectedAs false = SelectEnds
SelectedAs true = ClosedEnds

-- heads were read, each byte of them at most once, and then some records, each byte at most once
pub record ReadsClosed (rows : List Row) (old new : SeenSource) : Type 0 where
  pub mid : SeenSource
  pub heads : ReadsHeads rows old mid
  pub some : ReadsSome rows mid new

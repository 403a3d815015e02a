-- The good front of a source: what can be opened of an archive that is refused. This project's own notion.
use Rattle.std.specs.Prelude.{◌≡◌, ℕ, ◌^◌, ◌<◌, List, ◌++◌, length, take, Option, Some, None, Result, Ok, Err, IfErr, IfOk, OnOk}
use Rattle.std.specs.Io.KnownBytes.{append_known}
use Rattle.warc_frame.specs.Effects.{IsOfDevice, ReadsRange}
use Rattle.warc_frame.specs.Failing.{HasFailedBy, MayHaveFailedBy, failed_by}
use Rattle.warc_frame.specs.Record.{max_archive}
use Rattle.warc_frame.specs.Seen.{IfHeld, Seen, SeenSource}
use Rattle.warc_frame.specs.Send.{WentOut, sent_of}
use Rattle.warc_frame.specs.declared.fault.Fault.{Fault}
use Rattle.warc_frame.specs.declared.fault.OutFault.{OutFault}
use Rattle.warc_reading.specs.Archive.{IsArchiveOf}
use Rattle.warc_reading.specs.Fronts.{IsLongestFront, reach_of}
use Rattle.warc_reading.specs.Opening.{Opens}
use Rattle.warc_reading.specs.Row.{Row}

-- why a whole source isn't an archive, if it isn't
abbrev pub refused_by : Option Fault → List Row → Result (List Row) Fault
refused_by None rows = Ok rows
refused_by (Some f) rows = Err f

-- the rows are those of an archive of these bytes, or of the longest front of what was read of them before a fault
abbrev pub AreRowsOfFront : List ℕ → Option Fault → List Row → Type 0
AreRowsOfFront bytes None rows = IsArchiveOf bytes rows
AreRowsOfFront bytes (Some f) rows = IsLongestFront (take (reach_of f) bytes) rows

-- Opening the good front of a source. The fault is the one by which opening the whole refuses it, and where the source
-- holds bytes, the rows are those of the longest list of good records that they begin with.
pub record OpensFront (old new : SeenSource) (rows : List Row) (fault : Option Fault) : Type 0 where
  pub opens : Opens IsArchiveOf old new (refused_by fault rows)
  pub rows_are : IfHeld old.holds (λ bytes. AreRowsOfFront bytes fault rows)

-- a fact about the bytes of an archive of these rows, with which those begin that a source holds, fewer than 2^64
abbrev pub IfBegun : SeenSource → List Row → (List ℕ → Type 0) → Type 0
IfBegun source rows P = (text more : List ℕ) → source.holds ≡ Some (text ++ more) → length (text ++ more) < 2 ^ 64
    → IsArchiveOf text rows → P text

-- Writing the bytes of the good records at the front of a source. Where it holds them, they go out and are counted, or
-- a front of them does, and the source has failed once more exactly where a read is reported. Any source is asked for
-- these bytes alone, in at most one read for each, and for none at an offset from 2^48 on. A failed read or write is
-- the only fault.
pub record CopiesFront (rows : List Row) (old new : SeenSource) (before after : Seen) (answer : Result ℕ OutFault)
    : Type 0 where
  pub reported : IfBegun old rows (λ text.
      OnOk answer (after.reports ≡ append_known before.reports text) × IfOk answer (λ n. n ≡ length text))
  pub cut : IfBegun old rows (λ text. IfErr answer (λ e. WentOut before.reports text after.reports (sent_of e)))
  pub failed : IfBegun old rows (λ text. HasFailedBy answer old.faults new.faults)
  pub reads : (text : List ℕ) → IsArchiveOf text rows → ReadsRange 0 (length text) old new
  pub near : ReadsRange 0 max_archive old new
  pub device : IfErr answer IsOfDevice
  pub may : MayHaveFailedBy answer old.faults new.faults
  pub cause : after.faults ≡ failed_by answer before.faults

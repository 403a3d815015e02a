-- How `captures` ends.
use Rattle.std.specs.Prelude.{◌≡◌, ℕ, ◌<◌, ◌⊎◌, List, [], ◌∷◌, length, map, codes, Option, Some, None, Result, Ok, Err, IfErr, IfOk, OnOk, ⊤}
use Rattle.std.specs.Io.KnownBytes.{append_known}
use Rattle.warc_frame.specs.Effects.{FailsBy, Preserves}
use Rattle.warc_frame.specs.Failing.{failed_by, failed_with}
use Rattle.warc_frame.specs.FaultText.{out_fault_text}
use Rattle.warc_frame.specs.Seen.{AsksOnly, IfHeld, Seen, SeenSource}
use Rattle.warc_frame.specs.Send.{WentOut, sent_of}
use Rattle.warc_frame.specs.declared.fault.OutFault.{OutFault}
use Rattle.warc_index.specs.Captures.{AreCapturesOf}
use Rattle.warc_reading.specs.Archive.{IsArchiveOf, contents}
use Rattle.warc_lookup.specs.Indexed.{indexed_record}
use Rattle.warc_reading.specs.Row.{Placed, Row, row_of}
use Rattle.warc_replay.specs.Captures.{capture_positions, captures_text}
use Rattle.warc_replay.specs.Capturing.{AreFirstOutcomes, AreOutcomes}
use Rattle.warc_replay.specs.Outcomes.{CaptureSeen}
use Rattle.warc_arguments.specs.declared.status.Status.{Status}
use Rattle.warc_arguments.specs.declared.status.Status.TheVariants.{Done, Found, Failed}
use Rattle.warc_commands.specs.Devices.{Devices}
use Rattle.warc_commands.specs.Program.{IsNotOpened, Reports, reported_line}

-- the positions of the captures that are listed: of all by position, of a URI by instant, then by position
abbrev pub AreListed : Option (List ℕ) → List Placed → List ℕ → Type 0
AreListed None records positions = positions ≡ capture_positions (map row_of records)
AreListed (Some uri) records positions = AreCapturesOf (map indexed_record records) uri positions

-- these are the outcomes of those captures, of the archive that the bytes are
pub record AreCapturesIn (uri : Option (List ℕ)) (bytes : List ℕ) (rows : List Row) (captures : List CaptureSeen)
    : Type 0 where
  pub is : IsArchiveOf bytes rows
  pub positions : List ℕ
  pub listed : AreListed uri is.are.records positions
  pub outcomes : AreOutcomes (contents is.are.records) positions captures

-- these are the outcomes of the first of those captures
pub record AreFrontIn (uri : Option (List ℕ)) (bytes : List ℕ) (rows : List Row) (captures : List CaptureSeen)
    : Type 0 where
  pub is : IsArchiveOf bytes rows
  pub positions : List ℕ
  pub listed : AreListed uri is.are.records positions
  pub outcomes : AreFirstOutcomes (contents is.are.records) positions captures

-- of none, or of the first
abbrev pub AreFirstIn : Option (List ℕ) → List ℕ → List Row → List CaptureSeen → Type 0
AreFirstIn uri bytes rows captures = (captures ≡ []) ⊎ AreFrontIn uri bytes rows captures

-- where no capture is listed that is reported
abbrev pub CountEnds : List CaptureSeen → Seen → Seen → Status → Type 0
CountEnds [] old new status = Reports (reported_line (codes "P1 NoCapture")) old new × (status ≡ Found)
CountEnds (c ∷ cs) old new status = (new ≡ old) × (status ≡ Done)

-- all lines of `captures` went out
pub record IsCapturesReported (uri : Option (List ℕ)) (old new : Devices) (status : Status) : Type 0 where
  pub rows : List Row
  pub captures : List CaptureSeen
  pub are : IfHeld old.source.holds (λ bytes. AreCapturesIn uri bytes rows captures)
  pub reported : new.out.reports ≡ append_known old.out.reports (captures_text rows captures)
  pub unfailed : new.out.faults ≡ old.out.faults
  pub sound : new.source.faults ≡ old.source.faults
  pub ends : CountEnds captures old.err new.err status

-- a read, a write or an allocation failed: a front of the lines of the first captures went out, as long as the message
-- says
pub record IsCapturesCutOff (uri : Option (List ℕ)) (old new : Devices) (status : Status) : Type 0 where
  pub rows : List Row
  pub captures : List CaptureSeen
  pub are : IfHeld old.source.holds (λ bytes. AreFirstIn uri bytes rows captures)
  pub fault : OutFault
  pub front : WentOut old.out.reports (captures_text rows captures) new.out.reports (sent_of fault)
  pub failed : new.out.faults ≡ failed_with fault old.out.faults
  pub fails : FailsBy {X = ℕ} (λ bytes. ⊤) (Err fault) old.source new.source
  pub reported : Reports (reported_line (out_fault_text fault)) old.err new.err
  pub status_is : status ≡ Failed

-- how `captures` ends, of all captures or of the captures of a URI
abbrev pub CapturesEnds : Option (List ℕ) → Devices → Devices → Status → Type 0
CapturesEnds uri old new status = IsCapturesReported uri old new status
    ⊎ (IsNotOpened old new status ⊎ IsCapturesCutOff uri old new status)

-- ---- on the way: what writing the lines answers

-- how an answer is reported: how many captures there are, or what ended the lines early
abbrev pub AnswerEnds : Result ℕ OutFault → Seen → Seen → Status → Type 0
AnswerEnds (Ok count) old new status =
    ((count ≡ 0) × Reports (reported_line (codes "P1 NoCapture")) old new × (status ≡ Found))
    ⊎ ((0 < count) × (new ≡ old) × (status ≡ Done))
AnswerEnds (Err fault) old new status = Reports (reported_line (out_fault_text fault)) old new × (status ≡ Failed)

-- what writing the lines of the captures that are listed does, of an archive that is so of bytes
pub record WritesListed (Is : List ℕ → Type 0) (uri : Option (List ℕ)) (rows : List Row) (before after : SeenSource)
    (out out' : Seen) (answer : Result ℕ OutFault) : Type 0 where
  pub captures : List CaptureSeen
  pub first : IfHeld before.holds (λ bytes. Is bytes → AreFirstIn uri bytes rows captures)
  pub all : IfHeld before.holds (λ bytes. Is bytes → OnOk answer (AreCapturesIn uri bytes rows captures))
  pub count : IfOk answer (λ n. n ≡ length captures)
  pub reported : OnOk answer (out'.reports ≡ append_known out.reports (captures_text rows captures))
  pub cut : IfErr answer (λ e. WentOut out.reports (captures_text rows captures) out'.reports (sent_of e))
  pub inside : (bytes : List ℕ) → Is bytes → AsksOnly (λ at. at < length bytes) before after
  pub keeps : Preserves before after
  pub fails : FailsBy Is answer before after
  pub cause : out'.faults ≡ failed_by answer out.faults

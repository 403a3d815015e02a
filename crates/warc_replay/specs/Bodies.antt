-- What the record at a position gives, and what it reads of the source. This project's own notion.
use Rattle.std.specs.Prelude.{◌≡◌, ℕ, List, codes, slice_get, Option, Some, None, Result, Ok, Err, IsTrue, IsFalse, ⊤}
use Rattle.warc_frame.specs.Effects.{FailsBy, Preserves}
use Rattle.warc_frame.specs.Failing.{failed_by}
use Rattle.warc_frame.specs.Record.{Record}
use Rattle.warc_frame.specs.Seen.{IfHeld, Seen, SeenSource}
use Rattle.warc_frame.specs.declared.fault.OutFault.{OutFault}
use Rattle.warc_record.specs.Readings.{kind_of}
use Rattle.warc_index.specs.Captures.{is_capture}
use Rattle.warc_index.specs.Orders.{Indexes}
use Rattle.warc_segment.specs.Kept.{Kept as Parts}
use Rattle.warc_answer.specs.Answers.{path_at}
use Rattle.warc_answer.specs.ReasonText.{replay_fault_text}
use Rattle.warc_answer.specs.Replays.{IsReplayOn, IsSilent, out_result}
use Rattle.warc_answer.specs.Seen.{IsEarly}
use Rattle.warc_answer.specs.declared.answer.Answer.{Answer}
use Rattle.warc_reading.specs.Archive.{IsArchiveOf, contents}
use Rattle.warc_lookup.specs.Indexed.{AreOf, IsIndexedBy}
use Rattle.warc_reading.specs.Row.{Row}
use Rattle.warc_replay.specs.Replaying.{AsksInside, ReadsPath}
use Rattle.warc_replay.specs.declared.fault.BodyFault.{BodyFault}
use Rattle.warc_replay.specs.declared.fault.BodyFault.TheVariants.{NoRecord, NoCapture, Replay}

-- the texts of the faults
abbrev pub body_fault_text : BodyFault → List ℕ
body_fault_text NoRecord = codes "E1 NoRecord"
body_fault_text NoCapture = codes "E2 NoCapture"
body_fault_text (Replay fault) = replay_fault_text fault

-- a capture is at the position
pub record IsCaptureAt (records : List Record) (position : ℕ) : Type 0 where
  pub content : Record
  pub there : slice_get records position ≡ Some content
  pub capture : IsTrue (is_capture (kind_of content.fields))

-- a record that is no capture is there
pub record IsOtherAt (records : List Record) (position : ℕ) : Type 0 where
  pub content : Record
  pub there : slice_get records position ≡ Some content
  pub other : IsFalse (is_capture (kind_of content.fields))

-- What a sink reports after the body of the capture at a position was asked for: as after a replay on the path from
-- that capture; where there is no record, or no capture, what it reported before.
abbrev pub IsBodyAt : List Record → ℕ → Result Answer BodyFault → Option (List ℕ) → Option (List ℕ) → Type 0
IsBodyAt records position (Ok answer) old new =
    IsCaptureAt records position × IsReplayOn records (path_at records position) (Ok answer) old new
IsBodyAt records position (Err NoRecord) old new = (slice_get records position ≡ None) × (new ≡ old)
IsBodyAt records position (Err NoCapture) old new = IsOtherAt records position × (new ≡ old)
IsBodyAt records position (Err (Replay fault)) old new =
    IsCaptureAt records position × IsReplayOn records (path_at records position) (Err fault) old new

-- a result of giving a body, as one of an output: there a missing record or capture isn't a failure
abbrev pub body_result : Result Answer BodyFault → Result (Unit {0}) OutFault
body_result (Ok answer) = Ok tt
body_result (Err NoRecord) = Ok tt
body_result (Err NoCapture) = Ok tt
body_result (Err (Replay fault)) = out_result {X = Answer} (Err fault)

-- nothing goes out where there is no record or no capture, before a reason, or before an allocation fails, whatever the
-- source holds
abbrev pub IsSilentAt : {X : Type 0} → Result X BodyFault → Option (List ℕ) → Option (List ℕ) → Type 0
IsSilentAt (Ok x) old new = ⊤
IsSilentAt (Err NoRecord) old new = new ≡ old
IsSilentAt (Err NoCapture) old new = new ≡ old
IsSilentAt {X} (Err (Replay fault)) old new = IsSilent {X = X} (Err fault) old new

-- there is no record or no capture, or a fault comes before anything is written
abbrev pub IsEarlyAt : BodyFault → Type 0
IsEarlyAt NoRecord = ⊤
IsEarlyAt NoCapture = ⊤
IsEarlyAt (Replay fault) = IsEarly fault

-- The body of the capture at a position, by rows, an index and parts. Where the archive's source holds its bytes, what
-- goes out and what is answered are as the definition says of its records
pub record GivesBodyAt (rows : List Row) (index : Indexes) (parts : Parts) (position : ℕ) (old new : SeenSource)
    (before after : Seen) (answer : Result Answer BodyFault) : Type 0 where
  pub reported : IfHeld old.holds (λ bytes. (is : IsArchiveOf bytes rows) → AreOf is.are.records index parts
      → IsBodyAt (contents is.are.records) position answer before.reports after.reports)
  pub reads : ReadsPath 2 rows index parts (λ records. path_at records position) old new
  pub inside : AsksInside rows index parts old new
  pub keeps : Preserves old new
  pub silent : IsSilentAt answer before.reports after.reports
  pub fails : FailsBy (IsIndexedBy rows index parts) (body_result answer) old new
  pub cause : after.faults ≡ failed_by (body_result answer) before.faults

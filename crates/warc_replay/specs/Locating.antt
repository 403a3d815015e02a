-- Where the body of a replay is in the source, and what finding it reads. This project's own notion.
use Rattle.std.specs.Prelude.{◌≡◌, ℕ, List, slice_get, None, Result, Ok, Err, IfErr}
use Rattle.warc_value.specs.Dates.{Instant}
use Rattle.warc_frame.specs.Effects.{FailsBy, Preserves, ReadsOnly}
use Rattle.warc_frame.specs.Record.{Record}
use Rattle.warc_frame.specs.Seen.{IfHeld, SeenSource}
use Rattle.warc_frame.specs.declared.fault.OutFault.{OutFault}
use Rattle.warc_index.specs.Orders.{Indexes}
use Rattle.warc_index.specs.declared.unfound.Unfound.{Unfound}
use Rattle.warc_segment.specs.Kept.{Kept as Parts}
use Rattle.warc_answer.specs.Answers.{path_at, path_for}
use Rattle.warc_answer.specs.Located.{IsLocatedOn, Location}
use Rattle.warc_answer.specs.Replays.{out_result}
use Rattle.warc_answer.specs.Seen.{IsEarly}
use Rattle.warc_answer.specs.declared.answer.Path.{Path}
use Rattle.warc_answer.specs.declared.answer.ReplayFault.{ReplayFault}
use Rattle.warc_reading.specs.Archive.{IsArchiveOf, contents}
use Rattle.warc_lookup.specs.Indexed.{AreOf, IsIndexedBy}
use Rattle.warc_reading.specs.Row.{Placed, Row}
use Rattle.warc_replay.specs.Bodies.{IsCaptureAt, IsEarlyAt, IsOtherAt}
use Rattle.warc_replay.specs.Replaying.{AsksInside, IsOnPath, ReadsPath, path_reads}
use Rattle.warc_replay.specs.declared.fault.BodyFault.{BodyFault}
use Rattle.warc_replay.specs.declared.fault.BodyFault.TheVariants.{NoRecord, NoCapture, Replay}

-- what is located of records on a path, over bytes that the source holds: each byte of the joined blocks is read once
pub record Locates (bytes : List ℕ) (records : List Placed) (found : Result Path Unfound) (old new : SeenSource)
    (answer : Result Location ReplayFault) : Type 0 where
  pub located : IsLocatedOn bytes (contents records) found answer
  pub reads : ReadsOnly (IsOnPath records found) (path_reads 1 records found) old new

-- A body located on a way from records to a path, by rows, an index and parts: where the archive's source holds its
-- bytes, the body that a replay on that way gives. Nothing is written, so no fault says that a write failed
pub record LocatesOn (rows : List Row) (index : Indexes) (parts : Parts) (way : List Record → Result Path Unfound)
    (old new : SeenSource) (answer : Result Location ReplayFault) : Type 0 where
  pub held : IfHeld old.holds (λ bytes. (is : IsArchiveOf bytes rows) → AreOf is.are.records index parts
      → Locates bytes is.are.records (way (contents is.are.records)) old new answer)
  pub early : IfErr answer IsEarly
  pub inside : AsksInside rows index parts old new
  pub keeps : Preserves old new
  pub fails : FailsBy (IsIndexedBy rows index parts) (out_result answer) old new

-- the body that a replay gives for a URI as of a moment
abbrev pub LocatesFor : List Row → Indexes → Parts → List ℕ → Instant → SeenSource → SeenSource
    → Result Location ReplayFault → Type 0
LocatesFor rows index parts uri moment = LocatesOn rows index parts (λ records. path_for records uri moment)

-- the body that the capture at a position gives; or there is no record, or no capture
abbrev pub IsLocatedAt : List ℕ → List Record → ℕ → Result Location BodyFault → Type 0
IsLocatedAt bytes records position (Ok body) =
    IsCaptureAt records position × IsLocatedOn bytes records (path_at records position) (Ok body)
IsLocatedAt bytes records position (Err NoRecord) = slice_get records position ≡ None
IsLocatedAt bytes records position (Err NoCapture) = IsOtherAt records position
IsLocatedAt bytes records position (Err (Replay fault)) =
    IsCaptureAt records position × IsLocatedOn bytes records (path_at records position) (Err fault)

-- there a missing record or capture is no failure
abbrev pub location_result : Result Location BodyFault → Result (Unit {0}) OutFault
location_result (Ok body) = Ok tt
location_result (Err NoRecord) = Ok tt
location_result (Err NoCapture) = Ok tt
location_result (Err (Replay fault)) = out_result {X = Location} (Err fault)

-- the body of the capture at a position, located by rows, an index and parts
pub record LocatesAt (rows : List Row) (index : Indexes) (parts : Parts) (position : ℕ) (old new : SeenSource)
    (answer : Result Location BodyFault) : Type 0 where
  pub located : IfHeld old.holds (λ bytes. (is : IsArchiveOf bytes rows) → AreOf is.are.records index parts
      → IsLocatedAt bytes (contents is.are.records) position answer)
  pub early : IfErr answer IsEarlyAt
  pub reads : ReadsPath 1 rows index parts (λ records. path_at records position) old new
  pub inside : AsksInside rows index parts old new
  pub keeps : Preserves old new
  pub fails : FailsBy (IsIndexedBy rows index parts) (location_result answer) old new

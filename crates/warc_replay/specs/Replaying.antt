-- What a replay from an archive answers, what goes out, and how often the source is read.
use Rattle.std.specs.Prelude.{ℕ, ◌+◌, ◌-◌, ◌*◌, ◌<◌, ◌≤◌, ◌⊎◌, List, length, map, slice_get, Option, Some, None, Result, Ok, Err}
use Rattle.warc_value.specs.Dates.{Instant}
use Rattle.warc_frame.specs.Effects.{FailsBy, Preserves, ReadsOnly}
use Rattle.warc_frame.specs.Record.{Record}
use Rattle.warc_frame.specs.Seen.{AsksOnly, IfHeld, Seen, SeenSource}
use Rattle.warc_index.specs.declared.unfound.Unfound.{Unfound}
use Rattle.warc_segment.specs.Joined.{ReadRecord, joined_places, joined_records}
use Rattle.warc_segment.specs.declared.gap.Gap.{Gap}
use Rattle.warc_segment.specs.declared.place.Place.{Place}
use Rattle.warc_answer.specs.Answers.{path_for}
use Rattle.warc_answer.specs.Payloads.{read_record, whole_block}
use Rattle.warc_answer.specs.Places.{IsInOne}
use Rattle.warc_answer.specs.Replays.{IsReplayOn, WritesLate, out_result}
use Rattle.warc_answer.specs.declared.answer.Answer.{Answer}
use Rattle.warc_answer.specs.declared.answer.Path.{Path}
use Rattle.warc_answer.specs.declared.answer.ReplayFault.{ReplayFault}
use Rattle.warc_index.specs.Orders.{Indexes}
use Rattle.warc_segment.specs.Kept.{Kept as Parts}
use Rattle.warc_reading.specs.Archive.{IsArchiveOf, contents}
use Rattle.warc_lookup.specs.Indexed.{AreOf, placed_record, IsIndexedBy}
use Rattle.warc_reading.specs.Row.{Placed, Row}

-- how many bytes the blocks have that are joined, none where they don't join
abbrev pub joined_len : Result (List ReadRecord) Gap → ℕ
joined_len (Ok joined) = length (whole_block joined)
joined_len (Err gap) = 0

-- how many bytes the blocks have that are joined to an origin
abbrev pub origin_joined : List Placed → Placed → ℕ
origin_joined all p = joined_len (joined_records (map read_record (contents all)) (read_record p.content))

-- the length of an origin's head, and `times` the length of its joined block
abbrev pub reads_of : ℕ → List Placed → Option Placed → ℕ
reads_of times all None = 0
reads_of times all (Some p) = p.block_start - p.offset + times * origin_joined all p

-- none where there is no origin
abbrev pub path_reads : ℕ → List Placed → Result Path Unfound → ℕ
path_reads times all (Ok path) = reads_of times all (slice_get all path.given)
path_reads times all (Err unfound) = 0

-- the offset of a byte of a block that is joined, of none where they don't join
abbrev pub IsJoined : Result (List Place) Gap → ℕ → Type 0
IsJoined (Ok places) at = IsInOne places at
IsJoined (Err gap) at = ⊥

-- of a block that is joined to an origin
abbrev pub IsJoinedTo : List Placed → Placed → ℕ → Type 0
IsJoinedTo all p at = IsJoined (joined_places (map placed_record all) (placed_record p)) at

-- the offset of a byte of an origin's head, or of a block that is joined to its own
abbrev pub IsOfOrigin : List Placed → Option Placed → ℕ → Type 0
IsOfOrigin all None at = ⊥
IsOfOrigin all (Some p) at =
    ((p.offset ≤ at) × (at < p.block_start)) ⊎ IsJoinedTo all p at

-- of none where there is no origin
abbrev pub IsOnPath : List Placed → Result Path Unfound → ℕ → Type 0
IsOnPath all (Ok path) at = IsOfOrigin all (slice_get all path.given) at
IsOnPath all (Err unfound) at = ⊥

-- where the source holds the archive's bytes, the origin's head and the joined blocks at the end of the path alone are
-- read, in at most as many reads as the head and `times` the blocks have bytes
abbrev pub ReadsPath : ℕ → List Row → Indexes → Parts → (List Record → Result Path Unfound) → SeenSource → SeenSource
    → Type 0
ReadsPath times rows index parts way old new =
    IfHeld old.holds (λ bytes. (is : IsArchiveOf bytes rows) → AreOf is.are.records index parts
    → ReadsOnly (IsOnPath is.are.records (way (contents is.are.records)))
    (path_reads times is.are.records (way (contents is.are.records))) old new)

-- any source is asked for no byte after the archive's
abbrev pub AsksInside : List Row → Indexes → Parts → SeenSource → SeenSource → Type 0
AsksInside rows index parts old new =
    (bytes : List ℕ) → IsIndexedBy rows index parts bytes → AsksOnly (λ at. at < length bytes) old new

-- A replay on a way from records to a path, by rows, an index and parts. Where the archive's source holds its bytes,
-- what goes out and what is answered are as the definition of the answer says of its records
pub record ReplaysOn (rows : List Row) (index : Indexes) (parts : Parts) (way : List Record → Result Path Unfound)
    (old new : SeenSource) (before after : Seen) (answer : Result Answer ReplayFault) : Type 0 where
  pub reported : IfHeld old.holds (λ bytes. (is : IsArchiveOf bytes rows) → AreOf is.are.records index parts
      → IsReplayOn (contents is.are.records) (way (contents is.are.records)) answer before.reports after.reports)
  pub reads : ReadsPath 2 rows index parts way old new
  pub inside : AsksInside rows index parts old new
  pub keeps : Preserves old new
  pub late : WritesLate answer before after
  pub fails : FailsBy (IsIndexedBy rows index parts) (out_result answer) old new

-- a replay for a URI as of a moment
abbrev pub Replays : List Row → Indexes → Parts → List ℕ → Instant → SeenSource → SeenSource → Seen → Seen
    → Result Answer ReplayFault → Type 0
Replays rows index parts uri moment = ReplaysOn rows index parts (λ records. path_for records uri moment)

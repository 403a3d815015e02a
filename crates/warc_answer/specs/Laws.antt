-- The laws of the definitions.
use Rattle.std.specs.Prelude.{◌≡◌, ◌↔◌, ℕ, ◌<◌, List, length, map, slice_get, Option, Some, Result, Ok, Err, ⊤}
use Rattle.warc_value.specs.Dates.{Instant}
use Rattle.warc_frame.specs.Record.{Record}
use Rattle.warc_frame.specs.Send.{sent_of}
use Rattle.warc_frame.specs.declared.fault.OutFault.{OutFault}
use Rattle.warc_index.specs.Captures.{chosen_of}
use Rattle.warc_index.specs.Referents.{next_of}
use Rattle.warc_index.specs.Walks.{ComesBack}
use Rattle.warc_index.specs.declared.unfound.Unfound.{Unfound}
use Rattle.warc_index.specs.declared.unfound.Unfound.TheVariants.{Loop}
use Rattle.warc_segment.specs.Joined.{ReadRecord, ArePlacesOf, joined_records}
use Rattle.warc_segment.specs.declared.gap.Gap.{Gap}
use Rattle.warc_segment.specs.declared.place.Place.{Place}
use Rattle.warc_answer.specs.Payloads.{read_record, whole_block}
use Rattle.warc_answer.specs.Answers.{Given, IsAnswer, IsAnswerOn, index_of, path_at, path_for}
use Rattle.warc_answer.specs.Places.{len_of}
use Rattle.warc_answer.specs.Replays.{IsReplay, IsReplayOn}
use Rattle.warc_answer.specs.declared.answer.Answer.{Answer}
use Rattle.warc_answer.specs.declared.answer.Path.{Path}
use Rattle.warc_answer.specs.declared.answer.Reason.{Reason}
use Rattle.warc_answer.specs.declared.answer.Reason.TheVariants.{NotFound, Segments}
use Rattle.warc_answer.specs.declared.answer.ReplayFault.{ReplayFault}
use Rattle.warc_answer.specs.declared.answer.ReplayFault.TheVariants.{Reason as IsReason, Out}

-- each replay gives one thing, and no other
abbrev pub AnswersOnce : Type 0
AnswersOnce =
    (records : List Record) (uri : List ℕ) (moment : Instant)
    → (outcome : Result Given Reason) × IsAnswer records uri moment outcome
    × ((other : Result Given Reason) → IsAnswer records uri moment other → outcome ≡ other)

-- on the way to an answer: the path that was found, the origin at its end, and the records that are joined to it or
-- their gap
pub record IsFound (all : List ReadRecord) (found : Result Path Unfound) (path : Path) (origin : ReadRecord)
    (joined : Result (List ReadRecord) Gap) : Type 0 where
  pub path_is : found ≡ Ok path
  pub is_present : slice_get all path.given ≡ Some origin
  pub joined_is : joined_records all origin ≡ joined

-- the reasons before the payload: no path, and a gap
abbrev pub ReasonsAreAnswers : Type 0
ReasonsAreAnswers =
    (records : List Record) (found : Result Path Unfound)
    → ((unfound : Unfound) → found ≡ Err unfound → IsAnswerOn records found (Err (NotFound unfound)))
    × ((path : Path) (origin : ReadRecord) (gap : Gap) → IsFound (map read_record records) found path origin (Err gap)
    → IsAnswerOn records found (Err (Segments gap)))

-- a path that was found ends at one of the records
abbrev pub EndsInside : List Record → Result Path Unfound → Type 0
EndsInside records found = (path : Path) → found ≡ Ok path → path.given < length records

-- so do the path for a URI as of a moment, and that from one of the records
abbrev pub PathsEndInside : Type 0
PathsEndInside =
    (records : List Record)
    → ((uri : List ℕ) (moment : Instant) → EndsInside records (path_for records uri moment))
    × ((position : ℕ) → position < length records → EndsInside records (path_at records position))

-- places hold as many bytes as the blocks that they are of
abbrev pub PlacesAreAsLong : Type 0
PlacesAreAsLong =
    (bytes : List ℕ) (places : List Place) (joined : List ReadRecord) → ArePlacesOf bytes places joined
    → len_of places ≡ length (whole_block joined)

-- a replay that fails before anything goes out is one, whatever the answer is
abbrev pub FailsBeforeAll : Type 0
FailsBeforeAll =
    (records : List Record) (found : Result Path Unfound) (reported : Option (List ℕ)) (e : OutFault)
    → EndsInside records found → sent_of e ≡ 0 → IsReplayOn records found (Err (Out e)) reported reported

-- a capture is chosen for a URI as of a moment, and the chain from it comes back to a record that it has left
pub record ChosenLoops (records : List Record) (uri : List ℕ) (moment : Instant) : Type 0 where
  pub chosen : ℕ
  pub is : chosen_of (index_of (map read_record records)) uri moment ≡ Ok chosen
  pub back : ComesBack (next_of (index_of (map read_record records))) chosen

-- there, and only there, the answer is that it loops
abbrev pub LoopsAreAnswered : Type 0
LoopsAreAnswered = (records : List Record) (uri : List ℕ) (moment : Instant)
    → IsAnswer records uri moment (Err (NotFound Loop)) ↔ ChosenLoops records uri moment

-- a replay that no device and no failed allocation ends gives this reason exactly where that holds
abbrev pub IsOfLoop : Type 0 → Result Answer ReplayFault → Type 0
IsOfLoop Loops (Ok answer) = Loops → ⊥
IsOfLoop Loops (Err (IsReason why)) = (why ≡ NotFound Loop) ↔ Loops
IsOfLoop Loops (Err (Out e)) = ⊤

abbrev pub LoopsAreReplayed : Type 0
LoopsAreReplayed = (records : List Record) (uri : List ℕ) (moment : Instant) (answer : Result Answer ReplayFault)
    (old new : Option (List ℕ)) → IsReplay records uri moment answer old new
    → IsOfLoop (ChosenLoops records uri moment) answer

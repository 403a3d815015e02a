-- What a selection keeps whose records need no other: each of them gives there what it gives in the whole archive,
-- positions aside. This project's own notion.
use Rattle.std.specs.Prelude.{◌≡◌, ℕ, List, [], length, map, slice_get, Option, Some, None, Result, Ok, Err, ⊤}
use Rattle.std.specs.Option.{option_map_or}
use Rattle.warc_frame.specs.Record.{Record}
use Rattle.warc_answer.specs.Answers.{Given, IsAnswerOn, path_at}
use Rattle.warc_answer.specs.Payloads.{read_record}
use Rattle.warc_answer.specs.declared.answer.Answer.{Answer}
use Rattle.warc_answer.specs.declared.answer.Reason.{Reason}
use Rattle.warc_reading.specs.Archive.{IsArchiveOf}
use Rattle.warc_reading.specs.Row.{Row}
use Rattle.warc_replay.specs.Bodies.{IsBodyAt}
use Rattle.warc_replay.specs.Captures.{capture_line, line_by}
use Rattle.warc_rewrite.specs.Closing.{AreWithNeeded, AreWithout, NeedsNoOther}
use Rattle.warc_replay.specs.Outcomes.{CaptureSeen, IsOutcome, IsStoredOut, StoredAnswer}
use Rattle.warc_rewrite.specs.Selecting.{ArePositions, at_positions, selected_text}
use Rattle.warc_replay.specs.declared.fault.BodyFault.{BodyFault}

-- positions of some of these records, which need no other
pub record AreClosed (records : List Record) (positions : List ℕ) : Type 0 where
  pub are : ArePositions (length records) positions
  pub needs : NeedsNoOther (map read_record records) positions

-- ---- what is the same, positions aside

-- the record at a place of a selection is the one at a position of the whole archive
abbrev pub IsSameRecord : List ℕ → ℕ → ℕ → Type 0
IsSameRecord positions place position = slice_get positions place ≡ Some position

-- there is none in either, or the same one in both
abbrev pub AreSameRecord : List ℕ → Option ℕ → Option ℕ → Type 0
AreSameRecord positions None None = ⊤
AreSameRecord positions (Some place) (Some position) = IsSameRecord positions place position
AreSameRecord positions None (Some position) = ⊥
AreSameRecord positions (Some place) None = ⊥

-- the outcome of the same capture, with the same origin or none, and the same stored or the same reason
pub record IsSameOutcome (positions : List ℕ) (part whole : CaptureSeen) : Type 0 where
  pub chosen : IsSameRecord positions part.chosen whole.chosen
  pub given : AreSameRecord positions part.given whole.given
  pub stored : part.stored ≡ whole.stored

-- both answers say the same of a body
pub record IsSameAnswer (positions : List ℕ) (part whole : Answer) : Type 0 where
  pub chosen : IsSameRecord positions part.chosen whole.chosen
  pub given : IsSameRecord positions part.given whole.given
  pub status : part.status ≡ whole.status
  pub truncated : part.truncated ≡ whole.truncated
  pub length : part.length ≡ whole.length

-- both give the same body, with the same said of it, or the same reason
abbrev pub IsSameGiven : List ℕ → Result Given Reason → Result Given Reason → Type 0
IsSameGiven positions (Ok part) (Ok whole) = IsSameAnswer positions part.answer whole.answer × (part.body ≡ whole.body)
IsSameGiven positions (Err why) (Err other) = why ≡ other
IsSameGiven positions (Ok part) (Err other) = ⊥
IsSameGiven positions (Err why) (Ok whole) = ⊥

-- both calls that ask for a body give the same answer, or the same fault
abbrev pub IsSameResult : List ℕ → Result Answer BodyFault → Result Answer BodyFault → Type 0
IsSameResult positions (Ok part) (Ok whole) = IsSameAnswer positions part whole
IsSameResult positions (Err fault) (Err other) = fault ≡ other
IsSameResult positions (Ok part) (Err other) = ⊥
IsSameResult positions (Err fault) (Ok whole) = ⊥

-- both calls that ask for what is stored give the same
pub record IsSameBody (positions : List ℕ) (part whole : StoredAnswer) : Type 0 where
  pub chosen : IsSameRecord positions part.path.chosen whole.path.chosen
  pub given : IsSameRecord positions part.path.given whole.path.given
  pub stored : part.stored ≡ whole.stored

abbrev pub IsSameStored : List ℕ → Result StoredAnswer BodyFault → Result StoredAnswer BodyFault → Type 0
IsSameStored positions (Ok part) (Ok whole) = IsSameBody positions part whole
IsSameStored positions (Err fault) (Err other) = fault ≡ other
IsSameStored positions (Ok part) (Err other) = ⊥
IsSameStored positions (Err fault) (Ok whole) = ⊥

-- ---- the laws

-- whatever a selection may give, the whole archive may give the same, and the other way round
pub record GivesTheSame {A : Type 0} (Same : A → A → Type 0) (Part Whole : A → Type 0) : Type 0 where
  pub each : (part : A) → Part part → (whole : A) × Same part whole × Whole whole
  pub back : (whole : A) → Whole whole → (part : A) × Same part whole × Part part

-- what is given of a record of an archive is given of it in each selection of records that need no other
abbrev pub StaysTheSame : {A : Type 0} → (List ℕ → A → A → Type 0) → (List Record → ℕ → A → Type 0) → Type 0
StaysTheSame {A} Same Gives = (records : List Record) (positions : List ℕ) → AreClosed records positions
    → (place position : ℕ) → IsSameRecord positions place position
    → GivesTheSame (Same positions) (Gives (at_positions records positions) place) (Gives records position)

-- the outcome of the record at a position
abbrev pub IsOutcomeOf : List Record → ℕ → CaptureSeen → Type 0
IsOutcomeOf records position o = (o.chosen ≡ position) × IsOutcome records o

abbrev pub OutcomesAreKept : Type 0
OutcomesAreKept = StaysTheSame IsSameOutcome IsOutcomeOf

-- the body that the record at a position gives
abbrev pub IsAnswerAt : List Record → ℕ → Result Given Reason → Type 0
IsAnswerAt records position outcome = IsAnswerOn records (path_at records position) outcome

abbrev pub AnswersAreKept : Type 0
AnswersAreKept = StaysTheSame IsSameGiven IsAnswerAt

-- what a sink reports once a body was asked for
abbrev pub BodiesAreKept : Type 0
BodiesAreKept = (old new : Option (List ℕ))
    → StaysTheSame IsSameResult (λ records position answer. IsBodyAt records position answer old new)

-- what a sink reports once what is stored of an origin was asked for
abbrev pub StoredBodiesAreKept : Type 0
StoredBodiesAreKept = (old new : Option (List ℕ))
    → StaysTheSame IsSameStored (λ records position answer. IsStoredOut records position answer old new)

-- the line that `captures` writes of an outcome in the whole archive, with these positions in place of its own
abbrev pub line_with : List Row → CaptureSeen → CaptureSeen → List ℕ
line_with rows whole part =
    option_map_or (λ row. line_by row part.chosen part.given whole.stored) (slice_get rows whole.chosen) []

-- that is the line of the same outcome in what is written
abbrev pub LinesAreKept : Type 0
LinesAreKept = (bytes : List ℕ) (rows : List Row) → IsArchiveOf bytes rows → (positions : List ℕ)
    → ArePositions (length rows) positions
    → (others : List Row) → IsArchiveOf (selected_text rows positions bytes) others
    → (part whole : CaptureSeen) → IsSameOutcome positions part whole
    → capture_line others part ≡ line_with rows whole part

-- positions with all that their records need are such, and so are those of the records that need none of some
abbrev pub NeededAreClosed : Type 0
NeededAreClosed = (records : List Record) (positions closed : List ℕ)
    → AreWithNeeded (map read_record records) positions closed → AreClosed records closed

abbrev pub OthersAreClosed : Type 0
OthersAreClosed = (records : List Record) (positions kept : List ℕ)
    → AreWithout (map read_record records) positions kept → AreClosed records kept

-- What is put of a body for callers in other languages: what is said of it, and where it is. This project's own
-- notion.
use Rattle.std.specs.Prelude.{◌≡◌, ℕ, List, length, map, unwrap_or, Option, Some, None, Result, Ok, Err}
use Rattle.warc_value.specs.Dates.{Instant}
use Rattle.warc_frame.specs.Record.{Record}
use Rattle.warc_index.specs.declared.unfound.Unfound.{Unfound}
use Rattle.warc_answer.specs.Answers.{path_at, path_for}
use Rattle.warc_answer.specs.Located.{IsLocatedOn, Location}
use Rattle.warc_answer.specs.declared.answer.Answer.{Answer}
use Rattle.warc_answer.specs.declared.answer.Path.{Path}
use Rattle.warc_answer.specs.declared.answer.ReplayFault.{ReplayFault}
use Rattle.warc_answer.specs.declared.located.Span.{Span}
use Rattle.warc_replay.specs.Locating.{IsLocatedAt}
use Rattle.warc_replay.specs.declared.fault.BodyFault.{BodyFault}
use Rattle.warc_replay.specs.declared.fault.BodyFault.TheVariants.{NoRecord, NoCapture, Replay}
use Rattle.warc_lent.specs.Buffers.{HoldsFront}
use Rattle.warc_lent.specs.Problems.{problem_of_body, problem_of_replay}
use Rattle.warc_lent.specs.Rows.{flag_of}
use Rattle.warc_lent.specs.declared.bodies.AnswerNumbers.{AnswerNumbers}
use Rattle.warc_lent.specs.declared.bodies.SpanNumbers.{SpanNumbers}
use Rattle.warc_lent.specs.declared.problem.Problem.{Problem}
use Rattle.warc_lent.specs.declared.problem.Problem.TheVariants.{BadDate}

abbrev pub answer_numbers : Answer → AnswerNumbers
answer_numbers a = record {
  chosen = a.chosen;
  given = a.given;
  length = a.length;
  status = unwrap_or a.status 0;
  is_truncated = flag_of a.truncated;
}

abbrev pub span_numbers : Span → SpanNumbers
span_numbers s = record { offset = s.start; length = s.len }

-- the positions of a path, if there is one; the rest stays
abbrev pub path_numbers : Result Path Unfound → AnswerNumbers → AnswerNumbers
path_numbers (Ok path) old = record {
  chosen = path.chosen;
  given = path.given;
  length = old.length;
  status = old.status;
  is_truncated = old.is_truncated;
}
path_numbers (Err unfound) old = old

-- the positions of the path of the capture at a position, if there is one; the rest stays
abbrev pub path_numbers_at : BodyFault → Result Path Unfound → AnswerNumbers → AnswerNumbers
path_numbers_at NoRecord found old = old
path_numbers_at NoCapture found old = old
path_numbers_at (Replay fault) found old = path_numbers found old

-- what is put of a body: what is said of it, and its spans as far as there is room; their number is answered
pub record IsBodyPut (body : Location) (number : ℕ) (answer : AnswerNumbers) (spans : List SpanNumbers) : Type 0 where
  pub answer_is : answer ≡ answer_numbers body.answer
  pub spans_are : HoldsFront (map span_numbers body.spans) spans
  pub number_is : number ≡ length body.spans

-- a body that is so is put
pub record PutsBody (Lies : Location → Type 0) (number : ℕ) (answer : AnswerNumbers) (spans : List SpanNumbers)
    : Type 0 where
  pub body : Location
  pub lies : Lies body
  pub put : IsBodyPut body number answer spans

-- there is no body on a path: the problem says why, and the positions of the path are put
pub record PutsNone (bytes : List ℕ) (records : List Record) (found : Result Path Unfound) (problem : Problem)
    (old new : AnswerNumbers) : Type 0 where
  pub fault : ReplayFault
  pub is : IsLocatedOn bytes records found (Err fault)
  pub problem_is : problem ≡ problem_of_replay fault
  pub path : new ≡ path_numbers found old

-- there is no body at a position, where there may be no capture or no record: the problem says why, and the positions
-- of the path are put, if there is one
pub record PutsNoneAt (bytes : List ℕ) (records : List Record) (position : ℕ) (problem : Problem)
    (old new : AnswerNumbers) : Type 0 where
  pub fault : BodyFault
  pub is : IsLocatedAt bytes records position (Err fault)
  pub problem_is : problem ≡ problem_of_body fault
  pub path : new ≡ path_numbers_at fault (path_at records position) old

-- a replay as of a date gives no body: the date is none, or there is a reason, or a read or memory fails
abbrev pub IsNoReplay : Option Instant → Problem → Type 0
IsNoReplay None problem = problem ≡ BadDate
IsNoReplay (Some moment) problem = (fault : ReplayFault) × (problem ≡ problem_of_replay fault)

-- the record at a position gives no body, for such a fault, or as it is no capture or there is none
abbrev pub IsNoBody : Problem → Type 0
IsNoBody problem = (fault : BodyFault) × (problem ≡ problem_of_body fault)

-- what is put for a URI as of a moment
abbrev pub PutsFor : List ℕ → List Record → Result Path Unfound → Result ℕ Problem → AnswerNumbers → AnswerNumbers
    → List SpanNumbers → Type 0
PutsFor bytes records found (Ok number) old new spans =
    PutsBody (λ body. IsLocatedOn bytes records found (Ok body)) number new spans
PutsFor bytes records found (Err problem) old new spans = PutsNone bytes records found problem old new

-- what is put for a URI as of a date, which may be none
abbrev pub PutsReplay : List ℕ → List Record → List ℕ → Option Instant → Result ℕ Problem → AnswerNumbers
    → AnswerNumbers → List SpanNumbers → Type 0
PutsReplay bytes records uri None result old new spans = (result ≡ Err BadDate) × (new ≡ old)
PutsReplay bytes records uri (Some moment) result old new spans =
    PutsFor bytes records (path_for records uri moment) result old new spans

-- what is put for the capture at a position
abbrev pub PutsAt : List ℕ → List Record → ℕ → Result ℕ Problem → AnswerNumbers → AnswerNumbers → List SpanNumbers
    → Type 0
PutsAt bytes records position (Ok number) old new spans =
    PutsBody (λ body. IsLocatedAt bytes records position (Ok body)) number new spans
PutsAt bytes records position (Err problem) old new spans = PutsNoneAt bytes records position problem old new

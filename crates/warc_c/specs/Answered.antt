-- What C is answered: a number, and no problem, or 0 and the problem's numbers. This project's own notion.
use Rattle.std.specs.Prelude.{◌≡◌, ◌⊎◌, ◌<◌, ℕ, Bool, true, false, List, [], length, All, Option, Some, None, Result, Ok, Err, IfErr}
use Rattle.warc_payload.specs.Head.{front_of}
use Rattle.warc_frame.specs.declared.fault.Fault.{Fault}
use Rattle.warc_reading.specs.Archive.{IsArchiveOf, contents}
use Rattle.warc_reading.specs.Row.{Row}
use Rattle.warc_rewrite.specs.Forms.{text_as}
use Rattle.warc_rewrite.specs.declared.forms.Form.{Form}
use Rattle.warc_write.specs.Making.{Plan}
use Rattle.warc_portions.specs.Outputs.{IsAny, IsInSplit, left_of, left_selected, left_split}
use Rattle.warc_portions.specs.declared.next.Cursor.{Cursor}
use Rattle.warc_lent.specs.Fronts.{IsGoodFront}
use Rattle.warc_lent.specs.Heads.{FieldBuffers, HttpBuffers, PutsFields, PutsHttp}
use Rattle.warc_lent.specs.Pieces.{PutsPieceNumbers}
use Rattle.warc_lent.specs.Portions.{PutsMade, PutsNext, PutsWithin}
use Rattle.warc_lent.specs.Problems.{fault_numbers, problem_numbers}
use Rattle.warc_lent.specs.Texts.{IsRefusedFor, IsUnreadable, PutsFixity}
use Rattle.warc_lent.specs.declared.pieces.PieceNumbers.{PieceNumbers}
use Rattle.warc_lent.specs.declared.portions.PortionNumbers.{PortionNumbers}
use Rattle.warc_lent.specs.declared.problem.Numbers.{Numbers}
use Rattle.warc_lent.specs.declared.problem.Problem.{Problem}
use Rattle.warc_lent.specs.declared.problem.Problem.TheVariants as problems

abbrev pub IsAnswered : Result ℕ Problem → ℕ → Numbers → Numbers → Type 0
IsAnswered (Ok number) answer old new = (answer ≡ number) × (new ≡ old)
IsAnswered (Err problem) answer old new = (answer ≡ 0) × (new ≡ problem_numbers problem)

-- the bytes spell good records
abbrev pub IsArchive : List ℕ → Type 0
IsArchive bytes = (rows : List Row) × IsArchiveOf bytes rows

-- these are the numbers of a problem for which the bytes are refused
abbrev pub IsRefusedBy : List ℕ → Numbers → Type 0
IsRefusedBy bytes numbers = (problem : Problem) × IsRefusedFor bytes problem × (numbers ≡ problem_numbers problem)

-- how the blocks of these bytes compare with their digests is put and answered, or why the bytes are refused
pub record AnswersFixity (bytes : List ℕ) (answer : ℕ) (old new : List ℕ) (before after : Numbers) : Type 0 where
  pub result : Result ℕ Problem
  pub puts : PutsFixity bytes result old new
  pub answered : IsAnswered result answer before after

-- it is done, or a problem is reported
abbrev pub IsFlagged : Result (Unit {0}) Problem → Bool → Numbers → Numbers → Type 0
IsFlagged (Ok u) answer old new = (answer ≡ true) × (new ≡ old)
IsFlagged (Err problem) answer old new = (answer ≡ false) × (new ≡ problem_numbers problem)

-- a verdict is answered; where there is a problem it is 2: a block is unchecked, and no digest of a payload is stated
abbrev pub IsVerdictReported : Result ℕ Problem → ℕ → Numbers → Numbers → Type 0
IsVerdictReported (Ok verdict) answer old new = (answer ≡ verdict) × (new ≡ old)
IsVerdictReported (Err problem) answer old new = (answer ≡ 2) × (new ≡ problem_numbers problem)

-- a call on a handle answers a result so: of an open archive, a problem that may be, or else that none is open
pub record AnswersBy {X Y : Type 0} (Is : Result X Problem → Y → Numbers → Numbers → Type 0)
    (MayBe : Problem → Type 0) (is_open : Bool) (answer : Y) (before after : Numbers) : Type 0 where
  pub result : Result X Problem
  pub answered : Is result answer before after
  pub opened : is_open ≡ true → IfErr result MayBe
  pub closed : is_open ≡ false → result ≡ Err problems.NotOpen

-- a fault is reported, if there is one
abbrev pub IsFaultReported : Option Fault → Numbers → Numbers → Type 0
IsFaultReported None old new = new ≡ old
IsFaultReported (Some fault) old new = new ≡ fault_numbers fault

-- how many bytes the good records have that these bytes begin with, and the fault after them
pub record AnswersFront (bytes : List ℕ) (end : ℕ) (before after : Numbers) : Type 0 where
  pub fault : Option Fault
  pub front : IsGoodFront bytes end fault
  pub reported : IsFaultReported fault before after

-- a problem is reported, if there is one
abbrev pub IsStopReported : Option Problem → Numbers → Numbers → Type 0
IsStopReported None old new = new ≡ old
IsStopReported (Some problem) old new = new ≡ problem_numbers problem

-- the pieces of bytes are put, or those before a problem, which is reported, and their number is answered
pub record AnswersPieces (bytes : List ℕ) (answer : ℕ) (old new : List PieceNumbers) (before after : Numbers)
    : Type 0 where
  pub stop : Option Problem
  pub puts : PutsPieceNumbers bytes answer stop old new
  pub reported : IsStopReported stop before after

-- the fields of a head of a record are put, and their number is answered, or a problem is reported
pub record AnswersFields (head : List ℕ) (answer : ℕ) (old new : FieldBuffers) (before after : Numbers)
    : Type 0 where
  pub result : Result ℕ Problem
  pub puts : PutsFields head result old new
  pub answered : IsAnswered result answer before after

-- what the HTTP head at the front of a block says is put, or a problem is reported
pub record AnswersHttp (block : List ℕ) (answer : ℕ) (old new : HttpBuffers) (before after : Numbers)
    : Type 0 where
  pub result : Result ℕ Problem
  pub puts : PutsHttp (front_of block) result old new
  pub answered : IsAnswered result answer before after

-- there is a portion, or none is left, or a problem is reported
abbrev pub IsThereReported : Result Bool Problem → Bool → Numbers → Numbers → Type 0
IsThereReported (Ok is_there) answer old new = (answer ≡ is_there) × (new ≡ old)
IsThereReported (Err problem) answer old new = (answer ≡ false) × (new ≡ problem_numbers problem)

-- a call on a handle puts the next portion of an output of the open archive, whose rows contracts don't see
pub record AnswersPortion (Puts : List Row → Result Bool Problem → Type 0) (MayBe : Problem → Type 0)
    (is_open answer : Bool) (before after : Numbers) : Type 0 where
  pub rows : List Row
  pub result : Result Bool Problem
  pub answered : IsThereReported result answer before after
  pub puts : is_open ≡ true → Puts rows result
  pub opened : is_open ≡ true → IfErr result MayBe
  pub closed : is_open ≡ false → result ≡ Err problems.NotOpen

-- of an archive of these bytes and rows the next portion in a form
abbrev pub PutsAs : Form → List ℕ → Cursor → PortionNumbers → List ℕ → List Row → Result Bool Problem → Type 0
PutsAs form bytes cursor numbers buffer rows result = (is : IsArchiveOf bytes rows)
    → PutsNext (left_of (text_as form) (contents is.are.records)) IsAny cursor bytes result numbers buffer

-- the next one of its records that are split
abbrev pub PutsSplit : ℕ → List ℕ → Cursor → PortionNumbers → List ℕ → List Row → Result Bool Problem → Type 0
PutsSplit size bytes cursor numbers buffer rows result =
    (is : IsArchiveOf bytes rows) → IsInSplit size (contents is.are.records) cursor
    → PutsNext (left_split size (contents is.are.records)) (IsInSplit size (contents is.are.records)) cursor bytes
    result numbers buffer

-- the next one of its records at positions
abbrev pub PutsSelected : List ℕ → List ℕ → Cursor → PortionNumbers → List Row → Result Bool Problem → Type 0
PutsSelected positions bytes cursor numbers rows result = IsArchiveOf bytes rows → All (λ p. p < length rows) positions
    → PutsNext (left_selected rows positions bytes) IsAny cursor bytes result numbers []

-- the span of a portion that is put is within the bytes, and what follows its text in the buffer stays; where none is
-- put, all stays
abbrev pub PutsWhere : List ℕ → Bool → PortionNumbers → PortionNumbers → List ℕ → List ℕ → Type 0
PutsWhere lent is_there = PutsWithin lent (Ok is_there)

-- why nothing is chosen
abbrev pub IsNotChosen : Problem → Type 0
IsNotChosen problem = IsUnreadable problem ⊎ (problem ≡ problems.NoRecord)

-- the record of a plan is put, or a problem is reported
pub record AnswersMade (plan : Plan) (block : List ℕ) (answer : Bool) (numbers : PortionNumbers) (buffer : List ℕ)
    (before after : Numbers) : Type 0 where
  pub result : Result (Unit {0}) Problem
  pub puts : PutsMade plan block result numbers buffer
  pub flagged : IsFlagged result answer before after

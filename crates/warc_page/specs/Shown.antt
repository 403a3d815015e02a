-- What a call puts into the page's buffers, and how it ends: in state 0, in state 1 where there is no result and a text
-- says why, or in state 2 where memory doesn't suffice. This project's own notion.
use Rattle.std.specs.Prelude.{◌≡◌, ◌⊎◌, ℕ, Bool, true, false, List, length, map, Option, Some, None, Result, Ok, Err, IfErr, ⊤}
use Rattle.std.specs.List.{flat_map}
use Rattle.warc_value.specs.Dates.{Instant}
use Rattle.warc_fixity.specs.Judged.{stated_verdict}
use Rattle.warc_frame.specs.Count.{capped}
use Rattle.warc_frame.specs.Reading.{Head, any_fields, head_of}
use Rattle.warc_frame.specs.declared.fault.Fault.{Fault}
use Rattle.warc_frame.specs.declared.fault.FaultKind.{FaultKind}
use Rattle.warc_frame.specs.declared.fault.FaultKind.TheVariants.{Memory as NoMemory}
use Rattle.warc_index.specs.Captures.{Indexed, chosen_of}
use Rattle.warc_index.specs.declared.unfound.Unfound.{Unfound}
use Rattle.warc_reading.specs.Archive.{IsArchiveOf}
use Rattle.warc_reading.specs.Row.{Row}
use Rattle.warc_judged.specs.Fixity.{digest_value}
use Rattle.warc.specs.Front.{AreRowsOfFront}
use Rattle.warc_lent.specs.Buffers.{HoldsFront}
use Rattle.warc_lent.specs.Pieces.{PutsPieceNumbers}
use Rattle.warc_lent.specs.Problems.{problem_text}
use Rattle.warc_lent.specs.Rows.{row_numbers, row_texts, verdict_number}
use Rattle.warc_lent.specs.Texts.{AreFindingsOf, IsTextPut, IsRefusedFor, PutsSome}
use Rattle.warc_lent.specs.declared.bodies.AnswerNumbers.{AnswerNumbers}
use Rattle.warc_lent.specs.declared.pieces.PieceNumbers.{PieceNumbers}
use Rattle.warc_lent.specs.declared.problem.Problem.{Problem}
use Rattle.warc_lent.specs.declared.problem.Problem.TheVariants as problems
use Rattle.warc_lent.specs.declared.rows.RowNumbers.{RowNumbers}
use Rattle.warc_page.specs.declared.shapes.PageFront.{PageFront}
use Rattle.warc_page.specs.declared.shapes.PageOutcome.{PageOutcome}

abbrev pub lacks_memory : FaultKind → Bool
lacks_memory NoMemory = true
lacks_memory kind = false

-- the problem says that memory ran out
abbrev pub wants_memory : Problem → Bool
wants_memory (problems.Fault fault) = lacks_memory fault.kind
wants_memory problems.Memory = true
wants_memory problem = false

-- there is no result, for the problem whose text is put, which isn't that memory ran out; or memory doesn't suffice
abbrev pub EndsBy : Problem → ℕ → ℕ → List ℕ → Type 0
EndsBy problem state size text = (state ≡ 2)
    ⊎ ((wants_memory problem ≡ false) × (state ≡ 1) × IsTextPut (problem_text problem) size text)

-- the good front is the whole, or a fault ends it
abbrev pub EndsFront : Option Fault → ℕ → ℕ → List ℕ → Type 0
EndsFront None state size text = state ≡ 0
EndsFront (Some fault) state size text = EndsBy (problems.Fault fault) state size text

-- the fault after the good front is the one for which the whole is refused
abbrev pub StopsFor : List ℕ → Option Fault → Type 0
StopsFor bytes None = ⊤
StopsFor bytes (Some fault) = IsRefusedFor bytes (problems.Fault fault)

-- the rows of the longest good front of the bytes, and their texts, as far as there is room; how many they are, and
-- where they end; and the text of the fault after them, if there is one
pub record PutsFront (bytes : List ℕ) (rows : List RowNumbers) (texts fault : List ℕ) (outcome : PageFront)
    : Type 0 where
  pub kept : List Row
  pub stop : Option Fault
  pub are : AreRowsOfFront bytes stop kept
  pub refused : StopsFor bytes stop
  pub rows_are : HoldsFront (map row_numbers kept) rows
  pub texts_are : HoldsFront (flat_map row_texts kept) texts
  pub records_is : outcome.records ≡ length kept
  pub texts_is : outcome.texts ≡ capped (length (flat_map row_texts kept))
  pub end_is : (text : List ℕ) → IsArchiveOf text kept → outcome.end ≡ length text
  pub ends : EndsFront stop outcome.state outcome.length fault

-- the lines of all findings, or the problem for which the bytes are refused
abbrev pub PutsFindingLines : List ℕ → PageOutcome → List ℕ → Type 0
PutsFindingLines bytes outcome out =
    ((outcome.state ≡ 0) × PutsSome (AreFindingsOf bytes) outcome.length out)
    ⊎ ((problem : Problem) × IsRefusedFor bytes problem × EndsBy problem outcome.state outcome.length out)

-- the bytes are an archive, and it is open, or the text of the problem for which they are refused is put
abbrev pub EndsOpened : List ℕ → PageOutcome → List ℕ → Type 0
EndsOpened bytes outcome text =
    ((outcome.state ≡ 0) × (rows : List Row) × IsArchiveOf bytes rows)
    ⊎ ((outcome.state ≡ 2)
    ⊎ ((problem : Problem) × IsRefusedFor bytes problem × EndsBy problem outcome.state outcome.length text))

-- a number is answered, or a problem
abbrev pub EndsWith : Result ℕ Problem → PageOutcome → List ℕ → Type 0
EndsWith (Ok count) outcome text = (outcome.state ≡ 0) × (outcome.length ≡ count)
EndsWith (Err problem) outcome text = EndsBy problem outcome.state outcome.length text

-- what is put is right for what is answered
pub record Replies (Puts : Result ℕ Problem → Type 0) (outcome : PageOutcome) (text : List ℕ) : Type 0 where
  pub answered : Result ℕ Problem
  pub puts : Puts answered
  pub ends : EndsWith answered outcome text

-- the pieces of bytes are put, and their number is answered, or those before the problem
abbrev pub ShowsPieces : List ℕ → Result ℕ Problem → List PieceNumbers → List PieceNumbers → Type 0
ShowsPieces bytes (Ok number) old new = PutsPieceNumbers bytes number None old new
ShowsPieces bytes (Err problem) old new = (number : ℕ) × PutsPieceNumbers bytes number (Some problem) old new

-- a question is answered with a number or a problem: of an open archive, one that may be, or else that none is open
pub record IsReply (MayBe : Problem → Type 0) (is_open : Bool) (outcome : PageOutcome) (text : List ℕ) : Type 0 where
  pub answered : Result ℕ Problem
  pub ends : EndsWith answered outcome text
  pub opened : is_open ≡ true → IfErr answered MayBe
  pub closed : is_open ≡ false → answered ≡ Err problems.NotOpen

-- the position of the capture that is chosen is put, if one is
abbrev pub IsChosenPut : Result ℕ Unfound → AnswerNumbers → AnswerNumbers → Type 0
IsChosenPut (Ok chosen) old new = new ≡ record {
  chosen = chosen;
  given = old.given;
  length = old.length;
  status = old.status;
  is_truncated = old.is_truncated;
}
IsChosenPut (Err unfound) old new = new ≡ old

-- of records, for a URI as of a moment, if the date is one
abbrev pub PutsChosen : List Indexed → List ℕ → Option Instant → AnswerNumbers → AnswerNumbers → Type 0
PutsChosen all uri None old new = new ≡ old
PutsChosen all uri (Some moment) old new = IsChosenPut (chosen_of all uri moment) old new

-- how a block compares with the digest that a head states, or 3
abbrev pub IsVerdictOn : List ℕ → List ℕ → ℕ → Type 0
IsVerdictOn text block number = (number ≡ 3) ⊎ ((head : Head) × (head_of any_fields text ≡ Ok head)
    × (number ≡ verdict_number (stated_verdict (digest_value head.fields) block)))

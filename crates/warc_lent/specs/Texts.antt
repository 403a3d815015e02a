-- Texts of archives, taken whole.
use Rattle.std.specs.Prelude.{◌≡◌, ◌⊎◌, ℕ, List, length, Result, Ok, Err}
use Rattle.warc_frame.specs.declared.fault.Fault.{Fault}
use Rattle.warc_frame.specs.declared.fault.FaultKind.TheVariants.{Memory as NoMemory}
use Rattle.warc_reading.specs.Archive.{IsArchiveOf, IsFaultOf, contents}
use Rattle.warc_reading.specs.Row.{Row}
use Rattle.warc_checking.specs.Checking.{check_text}
use Rattle.warc_judged.specs.Fixity.{AreDigested, Judgements, fixity_text}
use Rattle.warc_lent.specs.Buffers.{HoldsFront}
use Rattle.warc_lent.specs.Problems.{problem_numbers, problem_text}
use Rattle.warc_lent.specs.declared.problem.Numbers.{Numbers}
use Rattle.warc_lent.specs.declared.problem.Problem.{Problem}
use Rattle.warc_lent.specs.declared.problem.Problem.TheVariants as problems

-- the lines of all findings of an archive of these bytes, if they are one
abbrev pub IsFindingsOf : List Row → List ℕ → List ℕ → Type 0
IsFindingsOf rows bytes text = (is : IsArchiveOf bytes rows) → text ≡ check_text (contents is.are.records)

-- how the blocks of an archive of these bytes compare with their digests
pub record IsFixityOf (bytes text : List ℕ) : Type 0 where
  pub rows : List Row
  pub judged : Judgements
  pub are : AreDigested bytes rows judged
  pub lines : text ≡ fixity_text rows judged

-- an allocation failed, or this is the first fault of the bytes
abbrev pub IsRefusedFor : List ℕ → Problem → Type 0
IsRefusedFor bytes problem =
    (problem ≡ problems.Memory)
    ⊎ ((fault : Fault) × (problem ≡ problems.Fault fault) × ((fault.kind ≡ NoMemory) ⊎ IsFaultOf bytes fault))

-- the source's bytes aren't what they were, or an allocation failed
abbrev pub IsUnreadable : Problem → Type 0
IsUnreadable problem = (problem ≡ problems.Changed) ⊎ (problem ≡ problems.Memory)

-- the bytes are an archive, and these are the lines of all its findings
pub record AreFindingsOf (bytes text : List ℕ) : Type 0 where
  pub rows : List Row
  pub is : IsArchiveOf bytes rows
  pub lines : text ≡ check_text (contents is.are.records)

-- a text is put, as far as there is room, and its length is answered
pub record IsTextPut (text : List ℕ) (answered : ℕ) (out : List ℕ) : Type 0 where
  pub front : HoldsFront text out
  pub whole : answered ≡ length text

-- such a text is put
pub record PutsSome (Is : List ℕ → Type 0) (answered : ℕ) (out : List ℕ) : Type 0 where
  pub text : List ℕ
  pub are : Is text
  pub put : IsTextPut text answered out

-- the text of the problem with these numbers is put, or there is none or no memory for it
abbrev pub IsProblemPut : Numbers → ℕ → List ℕ → List ℕ → Type 0
IsProblemPut numbers answered old new =
    ((answered ≡ 0) × (new ≡ old))
    ⊎ ((problem : Problem) × (problem_numbers problem ≡ numbers) × IsTextPut (problem_text problem) answered new)

-- how the blocks of an archive of these bytes compare with their digests is put, or nothing and the bytes are refused
abbrev pub PutsFixity : List ℕ → Result ℕ Problem → List ℕ → List ℕ → Type 0
PutsFixity bytes (Ok answered) old new = PutsSome (IsFixityOf bytes) answered new
PutsFixity bytes (Err problem) old new = IsRefusedFor bytes problem × (new ≡ old)

-- the lines of all findings of an archive of these bytes are put, or nothing and the bytes are refused
abbrev pub PutsFindings : List ℕ → Result ℕ Problem → List ℕ → List ℕ → Type 0
PutsFindings bytes (Ok answered) old new = PutsSome (AreFindingsOf bytes) answered new
PutsFindings bytes (Err problem) old new = IsRefusedFor bytes problem × (new ≡ old)

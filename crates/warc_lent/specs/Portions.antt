-- Portions of an output, put into what callers lend. This project's own notion.
use Rattle.std.specs.Prelude.{◌≡◌, ◌⊎◌, ℕ, ◌+◌, Bool, true, false, List, [], ◌++◌, length, take, drop, Result, Ok, Err}
use Rattle.warc_frame.specs.Effects.{HasRange}
use Rattle.warc_frame.specs.Record.{Record}
use Rattle.warc_frame.specs.Spelling.{canonical}
use Rattle.warc_frame.specs.declared.fault.EarlyFault.{EarlyFault}
use Rattle.warc_frame.specs.declared.fault.EarlyFault.TheVariants as rereads
use Rattle.warc_write.specs.Making.{Plan, made}
use Rattle.warc_write.specs.declared.made.MakeFault.{MakeFault}
use Rattle.warc_write.specs.declared.made.MakeFault.TheVariants.{Memory as NoMemory}
use Rattle.warc_portions.specs.Outputs.{IsFollowed, Left}
use Rattle.warc_portions.specs.declared.next.Cursor.{Cursor}
use Rattle.warc_lent.specs.Buffers.{HoldsFront, KeepsAfter}
use Rattle.warc_lent.specs.Problems.{IsMemory}
use Rattle.warc_lent.specs.declared.portions.PortionNumbers.{PortionNumbers}
use Rattle.warc_lent.specs.declared.problem.Problem.{Problem}
use Rattle.warc_lent.specs.declared.problem.Problem.TheVariants as problems

-- why no portion is made
abbrev pub problem_of_reread : EarlyFault → Problem
problem_of_reread rereads.Read = problems.Changed
problem_of_reread rereads.Memory = problems.Memory

-- the bytes of a portion with this text: the span of lent bytes comes into the text where the numbers say
abbrev pub portion_bytes : PortionNumbers → List ℕ → List ℕ → List ℕ
portion_bytes numbers text lent =
    take numbers.before text ++ take numbers.length (drop numbers.offset lent) ++ drop numbers.before text

-- a portion with these bytes is put: its numbers, and its text as far as there is room for it
pub record IsPortionPut (lent bytes : List ℕ) (numbers : PortionNumbers) (buffer : List ℕ) : Type 0 where
  pub text : List ℕ
  pub length_is : length text ≡ numbers.before + numbers.after
  pub front : HoldsFront text buffer
  pub range : HasRange numbers.offset numbers.length lent
  pub is : bytes ≡ portion_bytes numbers text lent

-- what is left of an output at a cursor begins with the portion that is put, and nothing is left where none is, unless
-- memory ran out
abbrev pub PutsNext : Left → (Cursor → Type 0) → Cursor → List ℕ → Result Bool Problem → PortionNumbers → List ℕ
    → Type 0
PutsNext left MayBe cursor lent (Ok true) numbers buffer =
    (bytes : List ℕ) × IsPortionPut lent bytes numbers buffer × IsFollowed left MayBe cursor bytes numbers.next
PutsNext left MayBe cursor lent (Ok false) numbers buffer = left cursor ≡ []
PutsNext left MayBe cursor lent (Err problem) numbers buffer = IsMemory problem

-- the span of a portion that is put is within the lent bytes, and what follows its text in the buffer stays; where none
-- is put, all stays
abbrev pub PutsWithin : List ℕ → Result Bool Problem → PortionNumbers → PortionNumbers → List ℕ → List ℕ → Type 0
PutsWithin lent (Ok true) old new before after =
    HasRange new.offset new.length lent × KeepsAfter (new.before + new.after) before after
PutsWithin lent (Ok false) old new before after = (new ≡ old) × (after ≡ before)
PutsWithin lent (Err problem) old new before after = (new ≡ old) × (after ≡ before)

-- a selected record isn't there: there is none at its position, or the bytes aren't what they were
abbrev pub IsNotThere : Problem → Type 0
IsNotThere problem = (problem ≡ problems.NoRecord) ⊎ (problem ≡ problems.Changed)

-- no record is made of a plan, for this problem
abbrev pub IsUnmade : Plan → Problem → Type 0
IsUnmade plan problem =
    (fault : MakeFault) × (problem ≡ problems.Made fault) × ((fault ≡ NoMemory) ⊎ (made plan ≡ Err fault))

-- the portion that is put is the record of a plan, or none is made
abbrev pub PutsMade : Plan → List ℕ → Result (Unit {0}) Problem → PortionNumbers → List ℕ → Type 0
PutsMade plan block (Ok u) numbers buffer =
    (r : Record) × (made plan ≡ Ok r) × IsPortionPut block (canonical r) numbers buffer
PutsMade plan block (Err problem) numbers buffer = IsUnmade plan problem

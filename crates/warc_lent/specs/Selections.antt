-- Which records a selection writes. This project's own notion.
use Rattle.std.specs.Prelude.{◌≡◌, ◌⊎◌, ◌↔◌, ◌<◌, ℕ, Bool, true, false, List, All, Contains}
use Rattle.warc_segment.specs.Joined.{ReadRecord}
use Rattle.warc_rewrite.specs.Closing.{AreWithNeeded, AreWithout}
use Rattle.warc_rewrite.specs.Selecting.{AreOthers, ArePositions}
use Rattle.warc_lent.specs.Problems.{IsMemory}
use Rattle.warc_lent.specs.declared.problem.Problem.{Problem}
use Rattle.warc_lent.specs.declared.problem.Problem.TheVariants as problems

-- the positions that are named, of those below a limit, in their order, each once
pub record AreNamedPositions (count : ℕ) (named positions : List ℕ) : Type 0 where
  pub are : ArePositions count positions
  pub each : (p : ℕ) → Contains positions p ↔ Contains named p

-- the positions of all others, or the named ones
abbrev pub AreChosen : Bool → ℕ → List ℕ → List ℕ → Type 0
AreChosen true count named positions = AreOthers count named positions
AreChosen false count named positions = AreNamedPositions count named positions

-- the positions of named records and of all that they need, or of all records that need none of them
abbrev pub AreClosedChoice : Bool → List ReadRecord → List ℕ → List ℕ → Type 0
AreClosedChoice true all named positions = AreWithout all named positions
AreClosedChoice false all named positions = AreWithNeeded all named positions

-- one of the named positions is that of no record
pub record NamesNoRecord (count : ℕ) (named : List ℕ) (problem : Problem) : Type 0 where
  pub is : problem ≡ problems.NoRecord
  pub beyond : ¬ All (λ p. p < count) named

-- why nothing is chosen: memory ran out, or one of the named positions is that of no record
abbrev pub IsNoChoice : ℕ → List ℕ → Problem → Type 0
IsNoChoice count named problem = IsMemory problem ⊎ NamesNoRecord count named problem

use Rattle.std.proofs.Common.{ℕ, ◌-◌, ◌≤◌, ◌++◌, List, length}
use Rattle.warc_pieces.specs.Skip.{NoneFrom}
use Rattle.warc_pieces.proofs.skip.next_fit.Given as goal

-- no good record begins before this place
abbrev pub invariant-fitting : goal.invariant-fitting
invariant-fitting g l = record {
  low : l.from ≤ l.at;
  within : l.at ≤ length l.head;
  none : (more : List ℕ) → NoneFrom (l.head ++ more) l.from l.at;
}

abbrev pub decreases-fitting : goal.decreases-fitting
decreases-fitting g l = length l.head - l.at

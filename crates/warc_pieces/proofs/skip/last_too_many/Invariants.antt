use Rattle.std.proofs.Common.{ℕ, ◌+◌, ◌-◌, ◌<◌, ◌≤◌, ◌++◌, List, length}
use Rattle.warc_pieces.specs.Skip.{NoneFrom}
use Rattle.warc_pieces.proofs.skip.last_too_many.Given as goal

-- no good record begins after the front, up to this place
abbrev pub invariant-halving : goal.invariant-halving
invariant-halving g l = record {
  order : l.low < l.high;
  within : l.high ≤ length l.head;
  none : (more : List ℕ) → NoneFrom (l.head ++ more) 1 (l.low + 1);
}

abbrev pub decreases-halving : goal.decreases-halving
decreases-halving g l = l.high - l.low

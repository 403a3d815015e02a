use Rattle.std.proofs.Common.{length, take, ◌-◌, ◌++◌, ℕ, List, ◌≤◌}
use Rattle.warc_frame.specs.Pieces.{Keeps}
use Rattle.warc_frame.proofs.pieces.feed.Given as goal

abbrev pub invariant-loop-from : goal.invariant-loop-from
invariant-loop-from g l = record {
  within : l.from ≤ length l.piece;
  holds : (at : ℕ) (taken : List ℕ) → Keeps at taken l.initial.kept l.initial.decoder → Keeps at (taken ++ take l.from l.piece) l.kept l.decoder;
}

abbrev pub decreases-loop-from : goal.decreases-loop-from
decreases-loop-from g l = length l.piece - l.from

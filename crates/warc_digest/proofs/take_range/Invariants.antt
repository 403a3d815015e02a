use Rattle.std.proofs.Common.{◌≡◌, ◌≤◌, ◌-◌, ℕ, ◌++◌, List, Some, take, drop}
use Rattle.warc_frame.specs.Effects.{ReadsOnly}
use Rattle.warc_frame.specs.Seen.{IsInRange}
use Rattle.warc_digest.proofs.take_range.Given as goal

-- the range so far was taken, and no read has failed
abbrev pub invariant-digesting : goal.invariant-digesting
invariant-digesting g l = record {
  within : l.done ≤ l.len;
  taken : (bytes : List ℕ) → (g.S.Source.seen l.fn.source).holds ≡ Some bytes → (of : g.T.TakePieces.Begun) (before : List ℕ) → g.T.TakePieces.has_taken l.fn.hashing of before → g.T.TakePieces.has_taken l.hashing of (before ++ take l.done (drop l.at bytes));
  reads : ReadsOnly (IsInRange l.at l.done) l.done
      (g.S.Source.seen l.fn.source)
      (g.S.Source.seen l.source);
  sound : (g.S.Source.seen l.source).faults ≡ (g.S.Source.seen l.fn.source).faults;
}

abbrev pub decreases-digesting : goal.decreases-digesting
decreases-digesting g l = l.len - l.done

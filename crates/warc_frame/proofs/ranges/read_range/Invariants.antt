use Rattle.std.proofs.Common.{◌≡◌, ◌≤◌, ◌-◌, ℕ, List, length, take, drop, Some}
use Rattle.warc_frame.specs.Effects.{ReadsOnly}
use Rattle.warc_frame.specs.Seen.{IsInRange}
use Rattle.warc_frame.proofs.ranges.read_range.Given as goal

-- the front of the buffer has the bytes so far, and no read has failed
abbrev pub invariant-filling : goal.invariant-filling
invariant-filling g l = record {
  within : l.filled ≤ length l.buf;
  bytes : (bytes : List ℕ) → (g.S.Source.seen l.fn.source).holds ≡ Some bytes → take l.filled l.buf ≡ take l.filled (drop l.at bytes);
  read : ReadsOnly (IsInRange l.at (length l.fn.buf)) l.filled
      (g.S.Source.seen l.fn.source)
      (g.S.Source.seen l.source);
  sound : (g.S.Source.seen l.source).faults ≡ (g.S.Source.seen l.fn.source).faults;
}

abbrev pub decreases-filling : goal.decreases-filling
decreases-filling g l = length l.buf - l.filled

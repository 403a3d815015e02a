use Rattle.std.proofs.Common.{◌≡◌, ℕ, ◌≤◌, ◌-◌, List, length, take, Some}
use Rattle.warc_commands.specs.Asking.{HasReadFront}
use Rattle.warc_commands.proofs.write.read_through.Given as goal

-- the bytes so far were read, and no read has failed
abbrev pub invariant-reading : goal.invariant-reading
invariant-reading g l = record {
  within : length l.read.items ≤ l.most;
  bytes : (bytes : List ℕ) → (g.S.Source.seen l.fn.source).holds ≡ Some bytes → l.read.items ≡ take (length l.read.items) bytes;
  kept : (g.S.Source.seen l.source).holds ≡ (g.S.Source.seen l.fn.source).holds;
  sound : (g.S.Source.seen l.source).faults ≡ (g.S.Source.seen l.fn.source).faults;
  asked : HasReadFront l.most (length l.fn.buf) l.read.items (g.S.Source.seen l.fn.source) (g.S.Source.seen l.source);
}

abbrev pub decreases-reading : goal.decreases-reading
decreases-reading g l = l.most - length l.read.items

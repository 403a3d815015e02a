use Rattle.std.proofs.Common.{ℕ, ◌-◌, ◌<◌, ◌≤◌, length}
use Rattle.warc_order.specs.Entries.{entry_at}
use Rattle.warc_order.proofs.entries.Entries.count_below.Given as goal

abbrev pub invariant-loop-low : goal.invariant-loop-low
invariant-loop-low g l = record {
  order : l.low ≤ l.high;
  bound : l.high ≤ length l.self;
  front : (k : ℕ) → k < l.low → (entry_at l.self k).position < l.position;
  back : (k : ℕ) → l.high ≤ k → k < length l.self → l.position ≤ (entry_at l.self k).position;
}

abbrev pub decreases-loop-low : goal.decreases-loop-low
decreases-loop-low g l = l.high - l.low

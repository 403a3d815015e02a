use Rattle.std.proofs.Common.{◌≡◌, ℕ, ◌-◌, ◌<◌, ◌≤◌, true, false, length, get_or}
use Rattle.warc_order.specs.Ranking.{blank}
use Rattle.warc_order.proofs.block.cut.Given as goal

abbrev pub invariant-loop-low : goal.invariant-loop-low
invariant-loop-low g l = record {
  order : l.low ≤ l.high;
  bound : l.high ≤ length l.slots;
  front : (k : ℕ) → k < l.low → g.T.SlotTest.passes l.test (get_or l.slots k blank) ≡ true;
  back : (k : ℕ) → l.high ≤ k → k < length l.slots → g.T.SlotTest.passes l.test (get_or l.slots k blank) ≡ false;
}

abbrev pub decreases-loop-low : goal.decreases-loop-low
decreases-loop-low g l = l.high - l.low

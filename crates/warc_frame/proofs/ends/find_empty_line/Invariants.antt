use Rattle.std.proofs.Common.{◌≡◌, ℕ, ◌-◌, ◌<◌, ◌≤◌, length, false}
use Rattle.warc_field.specs.Lines.{empty_at}
use Rattle.warc_frame.proofs.ends.find_empty_line.Given as goal

abbrev pub invariant-loop-at : goal.invariant-loop-at
invariant-loop-at l = record {
  within : l.from ≤ length l.text;
  none : (k : ℕ) → k < l.from → empty_at l.text k ≡ false;
}

abbrev pub decreases-loop-at : goal.decreases-loop-at
decreases-loop-at l = length l.text - l.from

use Rattle.std.proofs.Common.{◌≡◌, ℕ, ◌-◌, ◌<◌, ◌≤◌, length, false}
use Rattle.warc_field.specs.Lines.{crlf_at}
use Rattle.warc_field.proofs.lines.find_crlf.Given as goal

abbrev pub invariant-loop-step : goal.invariant-loop-step
invariant-loop-step l = record {
  within : (l.from ≤ l.at) × (l.at ≤ length l.text);
  none : (k : ℕ) → l.from ≤ k → k < l.at → crlf_at l.text k ≡ false;
}

abbrev pub decreases-loop-step : goal.decreases-loop-step
decreases-loop-step l = length l.text - l.at

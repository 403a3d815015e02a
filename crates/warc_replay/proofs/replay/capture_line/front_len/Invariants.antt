use Rattle.std.proofs.Common.{◌≡◌, ◌+◌, ◌-◌, ◌≤◌, length, drop, not, ◌==◌}
use Rattle.std.specs.List.{prefix_len}
use Rattle.warc_replay.proofs.replay.capture_line.front_len.Given as goal

abbrev pub invariant-loop-count : goal.invariant-loop-count
invariant-loop-count l = (l.count ≤ length l.date) × (l.count + prefix_len (λ b. not (b == 90)) (drop l.count l.date) ≡ prefix_len (λ b. not (b == 90)) l.date)

abbrev pub decreases-loop-count : goal.decreases-loop-count
decreases-loop-count l = length l.date - l.count

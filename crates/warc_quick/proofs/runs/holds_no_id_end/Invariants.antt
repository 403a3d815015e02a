use Rattle.std.proofs.Common.{◌≡◌, ℕ, ◌-◌, ◌<◌, ◌≤◌, false, length, get_or}
use Rattle.warc_record.specs.Ids.{ends_id}
use Rattle.warc_quick.proofs.runs.holds_no_id_end.Given as goal

abbrev pub invariant-loop-at : goal.invariant-loop-at
invariant-loop-at l = (l.at ≤ length l.text) × ((k : ℕ) → k < l.at → ends_id (get_or l.text k 0) ≡ false)

abbrev pub decreases-loop-at : goal.decreases-loop-at
decreases-loop-at l = length l.text - l.at

use Rattle.std.proofs.Common.{◌≡◌, ℕ, ◌*◌, ◌<◌, length, slice_index}
use Rattle.sha1.specs.Sha1.{word_at}
use Rattle.warc_lanes.specs.Lanes.{InEachLane, lane_of, bytes_in}
use Rattle.warc_lanes.proofs.kernel.load.Given as goal

abbrev pub invariant-load : goal.invariant-load
invariant-load l =
    (length l.window ≡ 16) × InEachLane (λ j. (k : ℕ) → k < l.i
    → slice_index (lane_of j l.window) k ≡ word_at (bytes_in j l.blocks) (4 * k))

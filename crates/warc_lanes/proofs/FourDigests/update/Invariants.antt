use Rattle.std.proofs.Common.{ℕ, ◌*◌, List, [], ◌++◌, take}
use Rattle.sha1.specs.Sha1.{IsAbsorbed}
use Rattle.warc_lanes.specs.Digests.{words_of}
use Rattle.warc_lanes.specs.Lanes.{InEachLane, lane_of, bytes_in}
use Rattle.warc_lanes.proofs.FourDigests.update.Given as goal

abbrev pub invariant-hashing : goal.invariant-hashing
invariant-hashing l = InEachLane (λ j. (taken : List ℕ) → IsAbsorbed (lane_of j (words_of l.fn.self)) [] taken
    → IsAbsorbed (lane_of j l.state) [] (taken ++ take (64 * l.i) (bytes_in j l.pieces)))

use Rattle.std.proofs.Common.{◌≡◌, ◌*◌, ◌/◌, ◌∙◌, [], length, arith, ap}
use Rattle.sha1.proofs.Absorbing.{IsAbsorbed_none}
use Rattle.warc_lanes.specs.Digests.{LaneHasTaken, words_of}
use Rattle.warc_lanes.specs.Lanes.{lane_of, bytes_in}
use Rattle.warc_lanes.proofs.DigestLemmas.{absorbed_along, length-block, one_more, shortest_le}
use Rattle.warc_lanes.proofs.FourDigests.update.Goals as goal

pub compress-requires : goal.compress-requires
compress-requires c j h =
    let short = shortest_le c.args.pieces.now j h in
    ap length (c.blocks_at.ensures j h) ∙ length-block (bytes_in j c.args.pieces.now) (64 * c.hashing.i) (omega (arith, short))

pub hashing-init : goal.hashing-init
hashing-init c j h taken begun =
    absorbed_along _ _ _ (ap (lane_of j) c.state-state.ensures)
    (IsAbsorbed_none (lane_of j (words_of c.args.self.now)) [] taken (bytes_in j c.args.pieces.now) begun)

pub hashing-preserved : goal.hashing-preserved
hashing-preserved c j h taken begun =
    let short = shortest_le c.args.pieces.now j h in
    absorbed_along _ _ _ (c.compress.ensures j h)
    (one_more (lane_of j c.hashing.state) taken (bytes_in j c.args.pieces.now) (bytes_in j c.blocks_at.result) c.hashing.i
    (lane_of j (words_of c.args.self.now)) begun (c.hashing.invariant j h taken begun) (omega (arith, short)) (c.blocks_at.ensures j h))

pub returns-clause-taken : goal.returns-clause-taken
unfolding LaneHasTaken
returns-clause-taken c j h taken begun =
    let done : c.hashing.i ≡ c.shortest-count.result / 64 = omega arith in
    absorbed_along _ _ _ (ap (lane_of j) c.set_state.ensures) (rw done at (c.hashing.invariant j h taken begun))

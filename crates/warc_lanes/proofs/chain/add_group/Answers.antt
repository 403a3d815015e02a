use Rattle.std.proofs.Common.{◌≡◌, ◌*◌, ◌<◌, ℕ, List, [], take, arith}
use Rattle.std.proofs.lemmas.List.{take_all}
use Rattle.sha1.proofs.Absorbing.{IsAbsorbed_none}
use Rattle.warc_lanes.specs.Lanes.{bytes_in}
use Rattle.warc_lanes.proofs.DigestLemmas.{absorbed_along, one_more}
use Rattle.warc_lanes.proofs.chain.add_group.Goals as goal

pub lanes-init : goal.lanes-init
lanes-init c taken begun = IsAbsorbed_none c.args.state.now [] taken c.args.group.now begun

pub lanes-preserved : goal.lanes-preserved
lanes-preserved c taken begun =
    let lane : ℕ = c.lanes.lane in
    let below : lane < 4 = omega arith in
    let group : List ℕ = c.args.group.now in
    let block : List ℕ = bytes_in lane c.blocks_of.result in
    absorbed_along _ _ _ (c.add_block.ensures block (c.schedule.ensures lane below))
    (one_more c.lanes.state taken group block lane c.args.state.now begun (c.lanes.invariant taken begun) (omega arith)
    (c.blocks_of.ensures.blocks lane below (omega arith)))

pub returns : goal.returns
returns c taken begun =
    let all : take (64 * c.lanes.lane) c.args.group.now ≡ c.args.group.now = take_all (64 * c.lanes.lane) c.args.group.now (omega arith) in
    rw all at (c.lanes.invariant taken begun)

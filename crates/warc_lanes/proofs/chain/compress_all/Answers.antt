use Rattle.std.proofs.Common.{ℕ, ◌-◌, List, take, drop, refl, arith}
use Rattle.warc_lanes.proofs.OneLemmas.{more_of_text}
use Rattle.warc_lanes.proofs.chain.compress_all.Goals as goal

pub groups-preserved : goal.groups-preserved
groups-preserved c =
    let blocks : List ℕ = c.args.blocks.now in
    let done : ℕ = c.groups.done in
    let end : ℕ = c.min-end.result in
    record {
      within = omega arith;
      whole = omega arith;
      absorbed = λ taken begun.
          more_of_text _ taken blocks (take (end - done) (drop done blocks)) done end (omega arith) refl
          (c.add_group.ensures _ (c.groups.invariant.absorbed taken begun));
    }

use Rattle.std.proofs.Common.{ℕ, ◌*◌, List, [], ◌++◌, take}
use Rattle.sha1.specs.Sha1.{IsAbsorbed}
use Rattle.warc_lanes.proofs.chain.add_group.Given as goal

abbrev pub invariant-lanes : goal.invariant-lanes
invariant-lanes l = (taken : List ℕ) → IsAbsorbed l.fn.state [] taken → IsAbsorbed l.state [] (taken ++ take (64 * l.lane) l.group)

use Rattle.std.proofs.Common.{◌≡◌, ℕ, ◌-◌, ◌%◌, ◌≤◌, List, [], ◌++◌, length, take}
use Rattle.sha1.specs.Sha1.{IsAbsorbed}
use Rattle.warc_lanes.proofs.chain.compress_all.Given as goal

abbrev pub invariant-groups : goal.invariant-groups
invariant-groups l = record {
  within : l.done ≤ length l.blocks;
  whole : l.done % 64 ≡ 0;
  absorbed : (taken : List ℕ) → IsAbsorbed l.fn.state [] taken → IsAbsorbed l.state [] (taken ++ take l.done l.blocks);
}

abbrev pub decreases-groups : goal.decreases-groups
decreases-groups l = length l.blocks - l.done

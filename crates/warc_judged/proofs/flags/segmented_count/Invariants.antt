use Rattle.std.proofs.Common.{◌≡◌, ◌≤◌, take}
use Rattle.warc_judged.specs.Summary.{segmented_count}
use Rattle.warc_judged.proofs.flags.segmented_count.Given as goal

-- the flags so far were counted
abbrev pub invariant-counting : goal.invariant-counting
invariant-counting l = record {
  counted : l.count ≡ segmented_count (take l.position l.flags);
  within : l.count ≤ l.position;
}

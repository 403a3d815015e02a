use Rattle.std.proofs.Common.{◌≡◌, ◌≤◌, take}
use Rattle.warc_judged.specs.Counting.{verdict_tally}
use Rattle.warc_judged.proofs.counts.Verdicts.count.Given as goal

-- the verdicts so far were counted
abbrev pub invariant-counting : goal.invariant-counting
invariant-counting g l = record {
  counted : l.count ≡ verdict_tally l.verdict (take l.position l.self);
  within : l.count ≤ l.position;
}

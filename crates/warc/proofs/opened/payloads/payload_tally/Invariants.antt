use Rattle.std.proofs.Common.{◌≡◌, ◌≤◌, take}
use Rattle.warc_replay.specs.PayloadText.{payload_tally}
use Rattle.warc.proofs.opened.payloads.payload_tally.Given as goal

-- the verdicts so far were counted
abbrev pub invariant-counting : goal.invariant-counting
invariant-counting l = record {
  counted : l.count ≡ payload_tally l.wanted (take l.position l.verdicts);
  within : l.count ≤ l.position;
}

use Rattle.std.proofs.Common.{◌≡◌, ◌-◌, ◌≤◌}
use Rattle.warc_frame.specs.Record.{max_block}
use Rattle.warc_commands.specs.Asking.{HasAsked}
use Rattle.warc_commands.proofs.write.is_long.Given as goal

-- no read has failed
abbrev pub invariant-asking : goal.invariant-asking
invariant-asking g l = record {
  some : 65536 ≤ l.at;
  kept : (g.S.Source.seen l.source).holds ≡ (g.S.Source.seen l.fn.source).holds;
  sound : (g.S.Source.seen l.source).faults ≡ (g.S.Source.seen l.fn.source).faults;
  asked : HasAsked l.at (g.S.Source.seen l.fn.source) (g.S.Source.seen l.source);
}

abbrev pub decreases-asking : goal.decreases-asking
decreases-asking g l = max_block - l.at

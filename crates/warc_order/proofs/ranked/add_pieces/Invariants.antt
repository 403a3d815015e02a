use Rattle.std.proofs.Common.{◌≡◌, ◌≤◌, ◌-◌, ◌++◌, take, length, All}
use Rattle.warc_order.specs.Ranking.{flattened, lists_of, IsBlock}
use Rattle.warc_order.proofs.ranked.add_pieces.Given as goal

abbrev pub invariant-loop-from : goal.invariant-loop-from
invariant-loop-from g l = record {
  bound : l.from ≤ length l.slots;
  blocks : All (IsBlock 512) l.even.items;
  list : flattened (lists_of l.even.items) ≡ flattened (lists_of l.initial.even.items) ++ take l.from l.slots;
}

abbrev pub decreases-loop-from : goal.decreases-loop-from
decreases-loop-from g l = length l.slots - l.from

use Rattle.std.proofs.Common.{◌≡◌, map, filter, take, drop, ◌++◌, length, All}
use Rattle.std.specs.Prelude.{nat_lt}
use Rattle.warc_order.specs.Ranking.{lists_of, IsNarrow}
use Rattle.warc_order.proofs.ranked.keep_all_below.Given as goal

abbrev pub invariant-loop-i : goal.invariant-loop-i
invariant-loop-i g l = record {
  length : length l.blocks.items ≡ length l.initial.blocks.items;
  lists : lists_of l.blocks.items ≡ map (λ ps. filter (λ e. nat_lt e.index l.count) ps) (take l.i (lists_of
      l.initial.blocks.items)) ++ drop l.i (lists_of l.initial.blocks.items);
  few : All (IsNarrow 512) l.initial.blocks.items → All (IsNarrow 512) l.blocks.items;
}

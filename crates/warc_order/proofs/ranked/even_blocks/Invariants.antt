use Rattle.std.proofs.Common.{◌≡◌, take, All}
use Rattle.warc_order.specs.Ranking.{flattened, lists_of, IsBlock}
use Rattle.warc_order.proofs.ranked.even_blocks.Given as goal

abbrev pub invariant-loop-block : goal.invariant-loop-block
invariant-loop-block g l = record {
  blocks : All (IsBlock 512) l.even.items;
  list : flattened (lists_of l.even.items) ≡ flattened (take l.block-index (lists_of l.blocks));
}

use Rattle.std.proofs.Common.{◌∙◌, ap, sym, ◌++◌, arith, take}
use Rattle.warc_order.specs.Ranking.{flattened, lists_of}
use Rattle.warc_order.proofs.BlockLemmas.{flattened-more}
use Rattle.warc_order.proofs.ranked.even_blocks.Goals as goal

pub loop-block-preserved : goal.loop-block-preserved
loop-block-preserved g c = record {
  blocks = c.in_ok-add_pieces.ensures.blocks;
  list = c.in_ok-add_pieces.ensures.list
      ∙ (ap (λ us. us ++ c.slots.result.now) c.loop-block.invariant.list
      ∙ (ap (λ us. flattened (take c.loop-block.block-index (lists_of c.args.blocks.now)) ++ us) (c.slots.ensures
      ∙ ap (λ b. b.list) c.block-item.is)
      ∙ sym (flattened-more c.args.blocks.now c.loop-block.block-index (omega arith) _)));
}

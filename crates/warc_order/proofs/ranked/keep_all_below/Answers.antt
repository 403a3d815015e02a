use Rattle.std.proofs.Common.{arith, ◌≡◌, ◌<◌, length, sym, subst, ◌∙◌}
use Rattle.std.specs.Prelude.{nat_lt}
use Rattle.std.proofs.lemmas.List.{length-map, length-set}
use Rattle.std.proofs.lemmas.List.Elements.{All-set}
use Rattle.warc_order.specs.Ranking.{Held, lists_of, IsNarrow}
use Rattle.warc_order.proofs.BlockLemmas.{keep_more, few_kept}
use Rattle.warc_order.proofs.ranked.keep_all_below.Goals as goal

pub loop-i-preserved : goal.loop-i-preserved
loop-i-preserved g c =
    let n : length (lists_of c.args.blocks.now.items) ≡ length c.args.blocks.now.items = length-map _ _ in
    let inv : length c.loop-i.blocks.items ≡ length c.args.blocks.now.items = c.loop-i.invariant.length in
    let h : c.loop-i.i < length c.loop-i.blocks.items = omega (arith, c.args.blocks.now.ok.0) in
    let old : Held = c.index_mut-block.result.now in
    record {
      length = length-set c.loop-i.blocks.items c.loop-i.i c.keep_below.new.self ∙ inv;
      lists = keep_more (λ e. nat_lt e.index c.args.count) (lists_of c.args.blocks.now.items) c.loop-i.blocks.items
          c.loop-i.i old c.keep_below.new.self h (omega (arith, n)) c.index_mut-block.ensures.value
          c.keep_below.ensures.list c.loop-i.invariant.lists;
      few = λ wide. All-set (IsNarrow 512) c.loop-i.blocks.items c.loop-i.i c.keep_below.new.self (few_kept old
          c.keep_below.new.self (subst (IsNarrow 512) (sym c.index_mut-block.ensures.value) (c.loop-i.invariant.few wide
          c.loop-i.i old h)) c.keep_below.ensures.bound c.keep_below.ensures.room) (c.loop-i.invariant.few wide);
    }

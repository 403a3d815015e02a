use Rattle.std.proofs.Common.{arith, ◌≡◌, length}
use Rattle.std.proofs.lemmas.List.{length-map}
use Rattle.warc_order.specs.Ranking.{lists_of}
use Rattle.warc_order.proofs.BlockLemmas.{order_of_firsts, order_within, point, somes, start_is_first}
use Rattle.warc_order.proofs.ranked.find_place.Goals as goal

pub cut_blocks-count-requires : goal.cut_blocks-count-requires
cut_blocks-count-requires g c =
    let n : length (lists_of c.args.blocks.now) ≡ length c.args.blocks.now = length-map _ _ in
    record {
      some = somes c.args.blocks.now c.requires.blocks;
      order = λ i j le lt. order_of_firsts (g.T.SlotTest.passes c.args.test.now) (lists_of c.args.blocks.now) (λ k h.
          somes c.args.blocks.now c.requires.blocks k (omega (arith, n))) c.requires.order i j le (omega (
            arith,
            n,
          ));
    }

pub cut_within-offset-requires-clause-order : goal.cut_within-offset-requires-clause-order
cut_within-offset-requires-clause-order g c =
    let n : length (lists_of c.args.blocks.now) ≡ length c.args.blocks.now = length-map _ _ in
    order_within (g.T.SlotTest.passes c.args.test.now) (lists_of c.args.blocks.now) c.saturating_sub-block.result
    (omega (arith, n)) c.requires.order

pub returns-clause-start : goal.returns-clause-start
returns-clause-start g c =
    let n : length (lists_of c.args.blocks.now) ≡ length c.args.blocks.now = length-map _ _ in
    start_is_first (g.T.SlotTest.passes c.args.test.now) (lists_of c.args.blocks.now) c.cut_blocks-count.result
    c.saturating_sub-block.result c.cut_within-offset.result (λ k h. somes c.args.blocks.now c.requires.blocks
    k (omega (arith, n))) record {
      block = omega (arith, n);
      within = c.cut_within-offset.ensures.bound;
      up = omega arith;
      down = λ h. omega arith;
      firsts = c.cut_blocks-count.ensures.front;
      others = λ j le lt. c.cut_blocks-count.ensures.back j le (omega (arith, n));
      front = c.cut_within-offset.ensures.front;
      back = c.cut_within-offset.ensures.back;
    }

pub returns-clause-point : goal.returns-clause-point
returns-clause-point g c =
    let n : length (lists_of c.args.blocks.now) ≡ length c.args.blocks.now = length-map _ _ in
    point (g.T.SlotTest.passes c.args.test.now) (lists_of c.args.blocks.now) c.cut_blocks-count.result
    c.saturating_sub-block.result c.cut_within-offset.result (λ k h. somes c.args.blocks.now c.requires.blocks
    k (omega (arith, n))) c.requires.order record {
      block = omega (arith, n);
      within = c.cut_within-offset.ensures.bound;
      up = omega arith;
      down = λ h. omega arith;
      firsts = c.cut_blocks-count.ensures.front;
      others = λ j le lt. c.cut_blocks-count.ensures.back j le (omega (arith, n));
      front = c.cut_within-offset.ensures.front;
      back = c.cut_within-offset.ensures.back;
    }

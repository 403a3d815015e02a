use Rattle.std.proofs.Common.{◌≡◌, arith, length, ◌∙◌}
use Rattle.std.proofs.lemmas.List.{length-map}
use Rattle.warc_order.specs.Ranking.{flattened, lists_of}
use Rattle.warc_order.proofs.RankLemmas.{upto_ends}
use Rattle.warc_order.proofs.StepLemmas.{next_found, ranked_of_strict}
use Rattle.warc_order.proofs.ranked.next_in.Goals as goal

pub first_in-requires-clause-order : goal.first_in-requires-clause-order
first_in-requires-clause-order g c =
    upto_ends (g.O.SlotOrder.compare c.args.order.now) (flattened (lists_of c.args.blocks.now)) c.args.slot
    (g.met.O.SlotOrder.total c.args.order.now)
    (ranked_of_strict (g.O.SlotOrder.compare c.args.order.now) (flattened (lists_of c.args.blocks.now)) c.requires.strict)

pub returns-then-is_slot_at : goal.returns-then-is_slot_at
returns-then-is_slot_at g c =
    let n : length (lists_of c.args.blocks.now) ≡ length c.args.blocks.now = length-map _ _ in
    c.next_slot.ensures
    ∙ next_found (g.O.SlotOrder.compare c.args.order.now) (g.met.O.SlotOrder.total c.args.order.now) (lists_of
    c.args.blocks.now) c.args.place.block c.args.place.offset c.args.slot c.requires.strict (omega (
      arith,
      n,
      (c.is_slot_at.ensures.block c.if-is_slot_at.true),
    )) (c.is_slot_at.ensures.offset c.if-is_slot_at.true)
    (c.is_slot_at.ensures.slot c.if-is_slot_at.true)

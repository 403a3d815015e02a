use Rattle.std.proofs.Common.{◌∙◌}
use Rattle.warc_order.proofs.OrderLemmas.{order_kept, ordered_more}
use Rattle.warc_order.proofs.Order.add.Goals as goal

pub rank_one-requires-clause-order : goal.rank_one-requires-clause-order
rank_one-requires-clause-order g c =
    order_kept c.self.inside.entries _ c.self.inside.ranked.list _ (record {
      text = c.args.text.now;
      mark =
          c.args.mark;
      position = c.in_ok-position.position;
    }) _ c.self.invariant
    c.in_ok-add.ensures.ok
    c.reserve.ensures.list
    (c.in_ok-index.ensures.same ∙ c.len.ensures)

pub invariant_of-self-2 : goal.invariant_of-self-2
invariant_of-self-2 g c =
    ordered_more c.self.inside.entries _ c.self.inside.ranked.list _ (record {
      text = c.args.text.now;
      mark =
          c.args.mark;
      position = c.in_ok-position.position;
    }) c.in_ok-index.index c.self.invariant
    c.in_ok-add.ensures.ok
    (c.in_ok-index.ensures.same ∙ c.len.ensures)
    (rw (c.self.view_is, c.in_ok-position.ensures.same) c.requires)
    c.rank_one.ensures

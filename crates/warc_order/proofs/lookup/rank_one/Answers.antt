use Rattle.std.proofs.Common.{subst, ◌∷◌}
use Rattle.std.specs.List.Sorted.{IsPermutation}
use Rattle.warc_order.proofs.OrderLemmas.{order_more}
use Rattle.warc_order.proofs.lookup.rank_one.Goals as goal

pub returns : goal.returns
returns g c =
    order_more c.args.entries.now c.args.index c.args.ranked.now.list _ c.requires.order
    c.add_reserved.ensures.ranked
    (subst (λ s. IsPermutation (s ∷ c.args.ranked.now.list) c.add_reserved.new.self.list) c.slot_of.ensures
    c.add_reserved.ensures.members)

use Rattle.warc_order.proofs.OrderLemmas.{ordered_fewer}
use Rattle.warc_order.proofs.Order.truncate.Goals as goal

pub invariant_of-self : goal.invariant_of-self
invariant_of-self g c = ordered_fewer c.self.inside.entries _ c.self.inside.ranked.list _
    c.count_below-kept.result c.self.invariant c.truncate.ensures c.keep_below.ensures

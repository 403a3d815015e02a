use Rattle.warc_order.proofs.OrderLemmas.{no_entries}
use Rattle.warc_order.proofs.Order.new.Goals as goal

pub invariant_of-result : goal.invariant_of-result
invariant_of-result g c = no_entries _ _ c.new.ensures c.new-2.ensures

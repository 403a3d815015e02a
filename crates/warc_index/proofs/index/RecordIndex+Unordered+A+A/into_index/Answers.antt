use Rattle.std.proofs.Common.{sym, subst}
use Rattle.warc_index.specs.Orders.{IsBelow}
use Rattle.warc_index.proofs.ReachLemmas.{chains_same}
use Rattle.warc_index.proofs.index.RecordIndex+Unordered+A+A.into_index.Goals as goal

pub invariant_of-result : goal.invariant_of-result
invariant_of-result g c = record {
  ids = subst (IsBelow c.self.inside.count) (sym c.into_order.ensures) c.self.invariant.ids;
  captures = subst (IsBelow c.self.inside.count) (sym c.into_order-2.ensures) c.self.invariant.captures;
  links = c.self.invariant.links;
  places = chains_same _ _ _ _ _ _ _ c.into_order.ensures c.into_order-2.ensures c.self.invariant.places;
}

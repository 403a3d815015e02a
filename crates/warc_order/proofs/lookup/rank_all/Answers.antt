use Rattle.std.proofs.Common.{subst}
use Rattle.std.specs.List.Sorted.{IsPermutation}
use Rattle.warc_order.proofs.OrderLemmas.{order_of_all}
use Rattle.warc_order.proofs.lookup.rank_all.Goals as goal

pub returns : goal.returns
returns g c = order_of_all c.args.entries.now c.into_ranked.result.list c.into_ranked.ensures.ranked
    (subst (λ us. IsPermutation us c.into_ranked.result.list) c.requires c.into_ranked.ensures.members)

use Rattle.std.proofs.Common.{rules, arith, ◌≡◌, ◌∙◌, sym}
use Rattle.std.specs.Ordering.{is_lt}
use Rattle.std.proofs.lemmas.Fn.{always_returns_same}
use Rattle.std.proofs.lemmas.List.Sorted.{sorted_far}
use Rattle.std.proofs.lemmas.List.MinMax.{ranks_by}
use Rattle.warc_order.specs.declared.slot.Slot.{Slot}
use Rattle.warc_order.proofs.OrderLemmas.{lt_is_gt}
use Rattle.warc_order.proofs.unsorted.sort.Goals as goal

pub returns-clause-ranked : goal.returns-clause-ranked
returns-clause-ranked g c = λ i j d lt within.
    let compare = g.O.SlotOrder.compare c.args.order.now in
    let weak = ranks_by (g.met.O.SlotOrder.total c.args.order.now) (λ (s : Slot). s) in
    sym (lt_is_gt compare (g.met.O.SlotOrder.total c.args.order.now) _ _)
    ∙ sorted_far (λ x y. is_lt (compare x y)) weak c.sort_unstable_by.new.self (c.sort_unstable_by.ensures.sorted (λ x y.
    is_lt (compare x y)) weak (always_returns_same _ (λ a r. is_lt r ≡ is_lt (compare a.0.now a.1.0.now)) _ (λ a r q k.
    search rules))) i j d (omega arith) within

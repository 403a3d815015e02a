use Rattle.std.proofs.Common.{ap, ◌∙◌, not, find}
use Rattle.std.specs.Ordering.{is_le}
use Rattle.warc_order.specs.Ranking.{flattened, lists_of}
use Rattle.warc_order.proofs.StepLemmas.{some_first, none_first, ranked_of_strict}
use Rattle.warc_order.proofs.ranked.Ranked.next_after.Goals as goal

pub returns-clause-some : goal.returns-clause-some
returns-clause-some g c =
    some_first (λ p. is_le (g.O.SlotOrder.compare c.args.order.now p c.args.slot)) c.args.self.now.list c.next_in.result
    (c.next_in.ensures ∙ (ap (λ bs. find (λ p. not (is_le (g.O.SlotOrder.compare c.args.order.now p c.args.slot)))
    (flattened (lists_of bs))) c.deref.ensures.value ∙ ap (λ v. find (λ p. not (is_le (g.O.SlotOrder.compare
    c.args.order.now p c.args.slot))) v.list) c.self.view_is))
    (g.O.SlotOrder.compare c.args.order.now) (g.met.O.SlotOrder.total c.args.order.now) (ranked_of_strict
    (g.O.SlotOrder.compare c.args.order.now) c.args.self.now.list c.requires)

pub returns-clause-none : goal.returns-clause-none
returns-clause-none g c =
    none_first (λ p. is_le (g.O.SlotOrder.compare c.args.order.now p c.args.slot)) c.args.self.now.list c.next_in.result
    (c.next_in.ensures ∙ (ap (λ bs. find (λ p. not (is_le (g.O.SlotOrder.compare c.args.order.now p c.args.slot)))
    (flattened (lists_of bs))) c.deref.ensures.value ∙ ap (λ v. find (λ p. not (is_le (g.O.SlotOrder.compare
    c.args.order.now p c.args.slot))) v.list) c.self.view_is))

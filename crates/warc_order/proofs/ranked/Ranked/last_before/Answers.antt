use Rattle.std.proofs.Common.{ap, ◌∙◌}
use Rattle.std.specs.Ordering.{is_lt}
use Rattle.warc_order.specs.Ranking.{flattened, lists_of, find_last}
use Rattle.warc_order.proofs.StepLemmas.{some_last, none_past, ranked_of_strict}
use Rattle.warc_order.proofs.ranked.Ranked.last_before.Goals as goal

pub returns-clause-some : goal.returns-clause-some
returns-clause-some g c =
    some_last (λ p. is_lt (g.O.SlotOrder.compare c.args.order.now p c.args.slot)) c.args.self.now.list
    c.previous_in.result
    (c.previous_in.ensures ∙ (ap (λ bs. find_last (λ p. is_lt (g.O.SlotOrder.compare c.args.order.now p c.args.slot))
    (flattened (lists_of bs))) c.deref.ensures.value ∙ ap (λ v. find_last (λ p. is_lt (g.O.SlotOrder.compare
    c.args.order.now p c.args.slot)) v.list) c.self.view_is))
    (g.O.SlotOrder.compare c.args.order.now) (g.met.O.SlotOrder.total c.args.order.now) (ranked_of_strict
    (g.O.SlotOrder.compare c.args.order.now) c.args.self.now.list c.requires)

pub returns-clause-none : goal.returns-clause-none
returns-clause-none g c =
    none_past (λ p. is_lt (g.O.SlotOrder.compare c.args.order.now p c.args.slot)) c.args.self.now.list
    c.previous_in.result
    (c.previous_in.ensures ∙ (ap (λ bs. find_last (λ p. is_lt (g.O.SlotOrder.compare c.args.order.now p c.args.slot))
    (flattened (lists_of bs))) c.deref.ensures.value ∙ ap (λ v. find_last (λ p. is_lt (g.O.SlotOrder.compare
    c.args.order.now p c.args.slot)) v.list) c.self.view_is))

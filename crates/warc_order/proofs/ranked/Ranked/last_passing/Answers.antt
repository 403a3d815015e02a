use Rattle.std.proofs.Common.{ap, ◌∙◌}
use Rattle.warc_order.specs.Ranking.{flattened, find_last, lists_of}
use Rattle.warc_order.proofs.StepLemmas.{some_last, none_past}
use Rattle.warc_order.proofs.ranked.Ranked.last_passing.Goals as goal

pub returns-clause-some : goal.returns-clause-some
returns-clause-some g c =
    some_last (g.T.SlotTest.passes c.args.test.now) c.args.self.now.list c.last_in.result
    (c.last_in.ensures ∙ (ap (λ bs. find_last (g.T.SlotTest.passes c.args.test.now) (flattened (lists_of bs)))
    c.deref.ensures.value ∙ ap (λ v. find_last (g.T.SlotTest.passes c.args.test.now) (v.list)) c.self.view_is))

pub returns-clause-none : goal.returns-clause-none
returns-clause-none g c =
    none_past (g.T.SlotTest.passes c.args.test.now) c.args.self.now.list c.last_in.result
    (c.last_in.ensures ∙ (ap (λ bs. find_last (g.T.SlotTest.passes c.args.test.now) (flattened (lists_of bs)))
    c.deref.ensures.value ∙ ap (λ v. find_last (g.T.SlotTest.passes c.args.test.now) (v.list)) c.self.view_is))

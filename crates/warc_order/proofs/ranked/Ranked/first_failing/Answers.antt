use Rattle.std.proofs.Common.{ap, ◌∙◌, not, find}
use Rattle.warc_order.specs.Ranking.{flattened, lists_of}
use Rattle.warc_order.proofs.StepLemmas.{some_first, none_first}
use Rattle.warc_order.proofs.ranked.Ranked.first_failing.Goals as goal

pub returns-clause-some : goal.returns-clause-some
returns-clause-some g c =
    some_first (g.T.SlotTest.passes c.args.test.now) c.args.self.now.list c.first_in.result
    (c.first_in.ensures ∙ (ap (λ bs. find (λ x. not (g.T.SlotTest.passes c.args.test.now x)) (flattened (lists_of bs)))
    c.deref.ensures.value ∙ ap (λ v. find (λ x. not (g.T.SlotTest.passes c.args.test.now x)) (v.list))
    c.self.view_is))

pub returns-clause-none : goal.returns-clause-none
returns-clause-none g c =
    none_first (g.T.SlotTest.passes c.args.test.now) c.args.self.now.list c.first_in.result
    (c.first_in.ensures ∙ (ap (λ bs. find (λ x. not (g.T.SlotTest.passes c.args.test.now x)) (flattened (lists_of bs)))
    c.deref.ensures.value ∙ ap (λ v. find (λ x. not (g.T.SlotTest.passes c.args.test.now x)) (v.list))
    c.self.view_is))

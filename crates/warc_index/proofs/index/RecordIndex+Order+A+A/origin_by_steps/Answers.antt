use Rattle.std.proofs.Common.{◌≡◌, ◌∙◌, ◌<◌, ap, sym, length, Ok, arith}
use Rattle.warc_index.proofs.ChainLemmas.{chain_ends, chain_goes, chain_breaks}
use Rattle.warc_index.proofs.index.RecordIndex+Order+A+A.origin_by_steps.Goals as goal

pub returns-in-Ok-None : goal.returns-in-Ok-None
returns-in-Ok-None g c all kept =
    let n : c.self.inside.count ≡ length all = ap (λ v. v.count) c.self.view_is ∙ kept.count in
    let lt : c.loop-step._step < length all = omega (arith, n, c.loop-step-test.true) in
    sym (c.loop-step.invariant all kept ∙ chain_ends all c.loop-step._step c.loop-step.at lt (sym (c.next.ensures all
    kept) ∙ (c.in-Ok-None.is ∙ ap Ok c.in-Ok-None.field-0-is)))

pub returns-in-Err : goal.returns-in-Err
returns-in-Err g c all kept =
    let n : c.self.inside.count ≡ length all = ap (λ v. v.count) c.self.view_is ∙ kept.count in
    let lt : c.loop-step._step < length all = omega (arith, n, c.loop-step-test.true) in
    sym (c.loop-step.invariant all kept ∙ chain_breaks all c.loop-step._step c.loop-step.at c.in-Err.unfound lt
    (sym (c.next.ensures all kept) ∙ c.in-Err.is))

pub loop-step-preserved : goal.loop-step-preserved
loop-step-preserved g c all kept =
    let n : c.self.inside.count ≡ length all = ap (λ v. v.count) c.self.view_is ∙ kept.count in
    let lt : c.loop-step._step < length all = omega (arith, n, c.loop-step-test.true) in
    c.loop-step.invariant all kept ∙ chain_goes all c.loop-step._step c.loop-step.at c.in-Ok-Some.next lt (sym
    (c.next.ensures all kept) ∙ (c.in-Ok-Some.is ∙ ap Ok c.in-Ok-Some.field-0-is))

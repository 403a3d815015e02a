use Rattle.std.proofs.Common.{◌≡◌, ◌+◌, ◌-◌, length, take, drop, get_or, ap, ⊎_elim, arith}
use Rattle.std.proofs.lemmas.Bool.{cases_lt}
use Rattle.std.proofs.lemmas.List.{get_or_past}
use Rattle.std.proofs.lemmas.Grind.{common_steps}
use Rattle.warc_field.proofs.LineLemmas.{crlf-absent, crlf-up_to, crlf-past}
use Rattle.warc_field.proofs.lines.find_crlf.Goals.{else-next-text-via-then-next-text+else-text-next-eq10, else-next-text-via-else-next-text}
use Rattle.warc_field.proofs.lines.find_crlf.Goals as goal

pub returns-clause-none : goal.returns-clause-none
returns-clause-none c =
    let t = c.args.text.now in
    let at = c.loop-step.at in
    let e : take (length t - at) (drop at t) ≡ drop at t = grind (arith, common_steps) in
    let none = rw e at c.in_default.ensures in
    λ k low. ⊎_elim (c.loop-step.invariant.none k low) (crlf-absent t at none k) (cases_lt k at)

pub returns-then-text-next-eq10-clause-first : goal.returns-then-text-next-eq10-clause-first
returns-then-text-next-eq10-clause-first c =
    let t = c.args.text.now in
    let at = c.loop-step.at in
    let e : take (length t - at) (drop at t) ≡ drop at t = grind (arith, common_steps) in
    let first = rw e at c.in-Some.ensures in
    λ k low high. crlf-up_to t at c.args.from c.in-Some.step c.loop-step.invariant.none first.0 k low (omega (arith, high))

pub loop-step-preserved : goal.loop-step-preserved
loop-step-preserved c =
    let t = c.args.text.now in
    let at = c.loop-step.at in
    let next = at + c.in-Some.step + 1 in
    let e : take (length t - at) (drop at t) ≡ drop at t = grind (arith, common_steps) in
    let first = rw e at c.in-Some.ensures in
    let other : get_or t next 0 ≡ 10 → ⊥ = elim c.else-next-text.branch [
      | else-next-text-via-then-next-text+else-text-next-eq10 w ↦ w.if-text-next-eq10.false
      | else-next-text-via-else-next-text w ↦ λ is. absurd (omega (arith, is, get_or_past t next 0 (omega (arith, w.if-next-text.false))))
    ] in
    record {
      within = (omega (arith, c.loop-step.invariant.within), omega (arith, first.0.high, ap length e, c.loop-step.invariant.within));
      none = crlf-past t at c.args.from c.in-Some.step c.loop-step.invariant.none first.0 other;
    }

use Rattle.std.proofs.Common.{get_or, sym, ap, ◌∙◌, arith}
use Rattle.std.proofs.Math.ListN.{set}
use Rattle.warc_value.specs.declared.hash.Verdict.TheVariants.{Good}
use Rattle.warc_judged.specs.Claims.{settled_claim}
use Rattle.warc_judged.proofs.ClaimLemmas.{settled_next, settled_none, settled_rest}
use Rattle.warc_judged.proofs.counts.settle_claims.Goals as goal

pub settling-init : goal.settling-init
settling-init c = sym (settled_none c.args.claims.now)

pub settling-preserved : goal.settling-preserved
settling-preserved c =
    let i = c.settling.i in
    let stated = c.args.stated.now in
    ap (set c.settling.claims i) c.settled_claim.ensures
    ∙ ap (λ l. set l i (settled_claim (get_or l i Good) (get_or stated i Good))) c.settling.invariant
    ∙ settled_next c.args.claims.now stated i Good Good (omega (arith, c.settling-test.true, c.min-i-end.ensures)) (omega (arith, c.settling-test.true, c.min-i-end.ensures))

pub returns : goal.returns
returns c =
    c.settling.invariant
    ∙ settled_rest c.args.claims.now c.args.stated.now c.settling.i (omega (arith, c.settling-test.false, c.min-i-end.ensures))

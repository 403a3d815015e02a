use Rattle.std.proofs.Common.{take_all, sym, subst, List, ℕ}
use Rattle.std.specs.Prelude.{Contains}
use Rattle.warc_rewrite.proofs.StatusLemmas.{unnamed_next, named_here}
use Rattle.warc_rewrite.proofs.remainder.has_named.Goals as goal

pub looking-preserved : goal.looking-preserved
looking-preserved c =
    unnamed_next c.args.positions.now c.looking.position-index c.args.statuses.now c.looking-test.true c.looking.invariant
    (c.is_named.ensures.no c.if-is_named.false)

pub returns-then-is_named-clause-yes : goal.returns-then-is_named-clause-yes
returns-then-is_named-clause-yes c is =
    named_here c.args.positions.now c.looking.position-index c.args.statuses.now c.looking-test.true
    (c.is_named.ensures.yes c.if-is_named.true)

pub returns-clause-no : goal.returns-clause-no
returns-clause-no c is q in_ =
    c.looking.invariant q (subst (λ (l : List ℕ). Contains l q) (sym (take_all _ _ c.looking-test.false)) in_)

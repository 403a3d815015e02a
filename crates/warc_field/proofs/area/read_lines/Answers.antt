use Rattle.std.proofs.Common.{arith}
use Rattle.std.proofs.lemmas.Grind.{common_steps}
use Rattle.warc_field.proofs.AreaLemmas.{read-field, read-bad, read-end, read-unended}
use Rattle.warc_field.proofs.FieldLemmas.{not_put, was_put}
use Rattle.warc_field.proofs.area.read_lines.Goals as goal

pub returns-then-not-is_field-clause-exact : goal.returns-then-not-is_field-clause-exact
returns-then-not-is_field-clause-exact g c =
    read-bad _ _ _ _ c.loop-line.invariant.read _ _ c.in-Some.ensures.line (not_put _ _ _ _ _ c.in_ok-is_field.ensures c.if-not-is_field.true)

pub loop-line-preserved : goal.loop-line-preserved
loop-line-preserved g c =
    let put = was_put _ _ _ _ _ c.in_ok-is_field.ensures c.if-not-is_field.false in
    record {
      few = omega (arith, put.3);
      counted = omega (arith, c.in-Some.ensures.whole, c.loop-line.invariant.counted, c.loop-line.invariant.within);
      within = omega (arith, c.in-Some.ensures.whole, c.loop-line.invariant.within);
      read = rw put.2 (read-field _ _ _ _ c.loop-line.invariant.read _ _ _ c.in-Some.ensures.line c.in-Some.ensures.whole c.loop-line.invariant.within put.1);
    }

pub returns-then-is_empty-clause-exact : goal.returns-then-is_empty-clause-exact
returns-then-is_empty-clause-exact g c = rw c.truncate.ensures
    (read-end _ _ _ _ c.loop-line.invariant.read c.in_default.ensures.none (grind (arith, common_steps)))

pub returns-else-is_empty-clause-exact : goal.returns-else-is_empty-clause-exact
returns-else-is_empty-clause-exact g c = read-unended _ _ _ _ c.loop-line.invariant.read c.in_default.ensures.none (grind (arith, common_steps))

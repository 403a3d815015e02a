use Rattle.std.proofs.Common.{◌*◌, refl, sym, ◌∙◌, arith}
use Rattle.std.proofs.lemmas.Bool.{ltb-true}
use Rattle.warc_frame.specs.Record.{max_block}
use Rattle.warc_commands.proofs.ReadLemmas.{asked_last, asked_more}
use Rattle.warc_commands.proofs.write.is_long.Goals as goal

pub returns-in_err-has_byte_at-clause-reads : goal.returns-in_err-has_byte_at-clause-reads
returns-in_err-has_byte_at-clause-reads g c =
    asked_last c.asking.at c.asking.at _ _ (g.S.Source.seen c.has_byte_at.new.source) _ c.asking.invariant.asked c.has_byte_at.ensures.read (omega arith) (omega (arith, c.asking-test.true))

pub returns-then-not-branch-clause-reads : goal.returns-then-not-branch-clause-reads
returns-then-not-branch-clause-reads g c =
    asked_last c.asking.at c.asking.at _ _ (g.S.Source.seen c.has_byte_at.new.source) _ c.asking.invariant.asked c.has_byte_at.ensures.read (omega arith) (omega (arith, c.asking-test.true))

pub asking-preserved : goal.asking-preserved
asking-preserved g c = record {
  some = omega (arith, c.asking.invariant.some);
  kept = c.has_byte_at.ensures.kept ∙ c.asking.invariant.kept;
  sound = c.in_ok-has_byte_at.ensures.failed ∙ c.asking.invariant.sound;
  asked = asked_more c.asking.at c.asking.at _ _ (g.S.Source.seen c.has_byte_at.new.source) _ c.asking.invariant.asked c.has_byte_at.ensures.read (omega arith) (omega (arith, c.asking-test.true))
      (c.asking.at * 2) refl c.asking.invariant.some
      (λ bytes held. ltb-true _ _ (sym (c.in_ok-has_byte_at.ensures.is_present bytes (c.asking.invariant.kept ∙ held)) ∙ c.if-not-branch.false));
}

pub returns-clause-reads : goal.returns-clause-reads
returns-clause-reads g c =
    asked_last max_block c.asking.at _ _ (g.S.Source.seen c.has_byte_at-2.new.source) _ c.asking.invariant.asked c.has_byte_at-2.ensures.read (omega (arith, c.asking-test.false)) (omega arith)

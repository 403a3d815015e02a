use Rattle.std.proofs.Common.{◌+◌, ◌-◌, arith, length, take, sym, ap, ◌∙◌}
use Rattle.warc_value.specs.declared.hash.Verdict.TheVariants.{Good}
use Rattle.warc_checking.specs.OwnFindings.{mark_at}
use Rattle.warc_checking.proofs.JudgingLemmas.{marked_first, marked_left, marked_len, marked_more}
use Rattle.warc_checking.proofs.findings.mark_last.Goals.{then-is_bad, else-is_bad}
use Rattle.warc_checking.proofs.findings.mark_last.Goals as goal

pub marking-init : goal.marking-init
marking-init g c = sym (marked_first c.args.findings.now (c.len.result - length c.args.verdicts.now))

pub mark-requires : goal.mark-requires
mark-requires g c =
    let first = c.len.result - length c.args.verdicts.now in
    omega (arith, c.requires, c.len.ensures, c.marking-test.true, ap length c.marking.invariant, marked_len c.args.findings.now first (take c.marking.i c.args.verdicts.now))

pub marking-preserved : goal.marking-preserved
marking-preserved g c =
    let first = c.len.result - length c.args.verdicts.now in
    let i = c.marking.i in
    elim c.if-is_bad.branch [
      | then-is_bad w ↦ w.findings-is ∙ w.mark.ensures ∙ ap (λ l. mark_at l (first + i)) c.marking.invariant
          ∙ marked_more c.args.findings.now first i c.args.verdicts.now Good (omega (arith, c.len.ensures)) c.marking-test.true (sym c.is_bad.ensures ∙ w.if-is_bad.true)
      | else-is_bad w ↦ w.findings-is ∙ c.marking.invariant
          ∙ marked_left c.args.findings.now first i c.args.verdicts.now Good c.marking-test.true (sym c.is_bad.ensures ∙ w.if-is_bad.false)
    ]

use Rattle.std.proofs.Common.{arith}
use Rattle.warc_checking.proofs.JudgingLemmas.{all_judged, all_sizes}
use Rattle.warc_checking.proofs.unjudged.mark_each.Goals as goal

pub returns-then-len-count : goal.returns-then-len-count
returns-then-len-count g c = λ records found judged.
    absurd (omega (arith, c.if-len-count.true, c.len.ensures, all_sizes records c.args.findings.now c.args.verdicts.now found judged))

pub returns : goal.returns
returns g c = λ records found judged. all_judged records c.args.findings.now _ c.args.verdicts.now c.mark_last.ensures found judged

use Rattle.warc_segment.proofs.ContinuationLemmas.{counts_more, absent_here, not_absent}
use Rattle.warc_segment.proofs.series.absent.Goals as goal

pub returns-then-series-i-clause-value : goal.returns-then-series-i-clause-value
returns-then-series-i-clause-value c =
    absent_here c.args.series.now c.loop-i.i _ c.requires.ordered c.requires.rises c.loop-i.invariant
    c.loop-i-test.true c.if-series-i.true

pub loop-i-preserved : goal.loop-i-preserved
loop-i-preserved c =
    counts_more c.args.series.now c.loop-i.i _ c.loop-i.invariant c.loop-i-test.true c.if-series-i.false

pub returns-clause-value : goal.returns-clause-value
returns-clause-value c =
    not_absent c.args.series.now c.loop-i.i c.requires.ordered c.loop-i.invariant c.loop-i-test.false c.requires.some

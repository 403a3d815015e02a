use Rattle.warc_segment.proofs.ContinuationLemmas.{rises_more, repeated_here, not_repeated}
use Rattle.warc_segment.proofs.series.repeated.Goals as goal

pub returns-then-series-i-clause-value : goal.returns-then-series-i-clause-value
returns-then-series-i-clause-value c =
    repeated_here c.args.series.now c.loop-i.i _ c.requires c.loop-i.invariant c.loop-i.auto.i c.loop-i-test.true
    c.if-series-i.true

pub loop-i-preserved : goal.loop-i-preserved
loop-i-preserved c =
    rises_more c.args.series.now c.loop-i.i _ c.loop-i.invariant c.loop-i.auto.i c.loop-i-test.true c.if-series-i.false

pub returns-clause-value : goal.returns-clause-value
returns-clause-value c =
    not_repeated c.args.series.now c.loop-i.i c.requires c.loop-i.invariant c.loop-i-test.false

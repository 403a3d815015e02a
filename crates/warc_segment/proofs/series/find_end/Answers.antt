use Rattle.warc_segment.proofs.ContinuationLemmas.{no_total_more, end_here}
use Rattle.warc_segment.proofs.series.find_end.Goals as goal

pub returns-in-Some : goal.returns-in-Some
returns-in-Some c = (
  c.loop-index-test.true,
  end_here c.args.series.now c.loop-index.index c.in-Some.total _ c.loop-index.invariant c.loop-index-test.true
      c.in-Some.is,
)

pub loop-index-preserved : goal.loop-index-preserved
loop-index-preserved c =
    no_total_more c.args.series.now c.loop-index.index _ c.loop-index.invariant c.loop-index-test.true c.in_default.is

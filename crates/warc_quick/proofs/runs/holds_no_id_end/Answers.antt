use Rattle.std.proofs.Common.{◌-◌, arith, length}
use Rattle.std.proofs.lemmas.Bool.{eqb-true}
use Rattle.warc_quick.proofs.RunLemmas.{none_more}
use Rattle.warc_quick.proofs.runs.holds_no_id_end.Goals as goal

pub loop-at-preserved : goal.loop-at-preserved
loop-at-preserved c = (
  omega (arith, c.loop-at-test.true),
  none_more c.args.text.now c.loop-at.at c.loop-at.at 16 _ c.loop-at.invariant.1 (omega arith) c.id_run.ensures (omega (arith, c.if-id_run-lt-LANES.false)),
)

pub returns : goal.returns
returns c = λ whole k inside.
    none_more c.args.text.now c.loop-at.at (length c.args.text.now - 16) 16 _ c.loop-at.invariant.1 (omega (arith, c.loop-at-test.false)) c.id_run-2.ensures
    (omega (arith, eqb-true c.id_run-2.result 16 whole)) k (omega (arith, inside))

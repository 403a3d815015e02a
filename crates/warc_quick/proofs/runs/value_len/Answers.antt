use Rattle.std.proofs.Common.{arith}
use Rattle.warc_field.specs.Text.{is_value_byte}
use Rattle.warc_quick.proofs.RunLemmas.{run_goes_on}
use Rattle.warc_quick.proofs.runs.value_len.Goals as goal

pub loop-at-preserved : goal.loop-at-preserved
loop-at-preserved c =
    let more = run_goes_on is_value_byte c.args.text.now c.loop-at.at 16 _ (omega (arith, c.loop-at-test.true)) c.value_run-run.ensures (omega (arith, c.if-run-lt-LANES.false)) in
    (omega (arith, c.loop-at-test.true), omega (arith, more, c.loop-at.invariant.1))

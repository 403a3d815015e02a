use Rattle.std.proofs.Common.{arith}
use Rattle.warc_value.proofs.DateLemmas.{number-more}
use Rattle.warc_value.proofs.date.number.Goals as goal

pub overflow_mul-number : goal.overflow_mul-number
overflow_mul-number c =
    let more = number-more c.args.digits.now c.loop-digit.digit-index c.loop-digit.number c.requires.few c.requires.digits c.loop-digit-test.true c.loop-digit.invariant.0 c.loop-digit.invariant.1 in
    omega (arith, more.2)

pub overflow_add-number : goal.overflow_add-number
overflow_add-number c =
    let more = number-more c.args.digits.now c.loop-digit.digit-index c.loop-digit.number c.requires.few c.requires.digits c.loop-digit-test.true c.loop-digit.invariant.0 c.loop-digit.invariant.1 in
    omega (arith, more.2)

pub loop-digit-preserved : goal.loop-digit-preserved
loop-digit-preserved c =
    let more = number-more c.args.digits.now c.loop-digit.digit-index c.loop-digit.number c.requires.few c.requires.digits c.loop-digit-test.true c.loop-digit.invariant.0 c.loop-digit.invariant.1 in
    (more.0, more.1)

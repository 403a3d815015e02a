use Rattle.std.proofs.Common.{arith, length, ◌-◌, ◌*◌, ◌^◌, ◌<◌}
use Rattle.std.proofs.lemmas.Grind.{common_steps}
use Rattle.warc_value.proofs.DateLemmas.{scaled-below, fraction_of}
use Rattle.warc_value.proofs.date.nanosecond.Goals as goal

pub overflow_mul-result : goal.overflow_mul-result
overflow_mul-result c =
    let k = length (fraction_of c.args.text.now) in
    let small : c.number.result * 10 ^ (9 - k) < 2 ^ 32 = scaled-below c.number.result k (grind (arith, common_steps)) c.number.ensures.below in
    grind (arith, common_steps)

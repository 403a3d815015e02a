use Rattle.std.proofs.Common.{length, ap, arith}
use Rattle.warc_field.proofs.CanonLemmas.{canonical_step_len, canonical_past}
use Rattle.warc_field.proofs.write.canonical_len.Goals as goal

pub returns-in_err-len-clause-none : goal.returns-in_err-len-clause-none
returns-in_err-len-clause-none g c =
    let step = canonical_step_len c.args.fields.now c.as_slice-name-items.result.now c.as_slice-name-items.ensures c.loop-name.name-index c.loop-name-item.result c.bytes.result.now c.bytes-in-loop-name.result.now c.loop-name-test.true c.loop-name-item.is c.bytes.ensures.text c.bytes-in-loop-name.ensures.text in
    rw c.from_residual.ensures (omega (arith, step, c.loop-name.invariant, c.in_err-len.ensures.none))

pub returns-clause-some : goal.returns-clause-some
returns-clause-some g c =
    let past = canonical_past c.args.fields.now c.as_slice-name-items.result.now c.as_slice-name-items.ensures c.loop-name.name-index c.loop-name-test.false in
    omega (arith, ap length past, c.loop-name.invariant)

use Rattle.std.proofs.Common.{arith, ◌++◌, length, sym, ap, ◌∙◌}
use Rattle.warc_field.proofs.LineLemmas.{append_nil}
use Rattle.warc_field.proofs.CanonLemmas.{canonical_step_len, canonical_past}
use Rattle.warc_field.proofs.write.write_area.Goals as goal

pub put_line-requires : goal.put_line-requires
put_line-requires g c =
    let step = canonical_step_len c.args.fields.now c.as_slice-name-items.result.now c.as_slice-name-items.ensures c.loop-name.name-index c.loop-name-item.result c.bytes.result.now c.bytes-in-loop-name.result.now c.loop-name-test.true c.loop-name-item.is c.bytes.ensures.text c.bytes-in-loop-name.ensures.text in
    omega (arith, step, c.loop-name.invariant.room)

pub returns-clause-ok : goal.returns-clause-ok
returns-clause-ok g c =
    let past = canonical_past c.args.fields.now c.as_slice-name-items.result.now c.as_slice-name-items.ensures c.loop-name.name-index c.loop-name-test.false in
    sym (append_nil c.loop-name.out.items) ∙ ap (λ xs. c.loop-name.out.items ++ xs) (sym past) ∙ c.loop-name.invariant.written

pub returns-clause-len : goal.returns-clause-len
returns-clause-len g c =
    let past = canonical_past c.args.fields.now c.as_slice-name-items.result.now c.as_slice-name-items.ensures c.loop-name.name-index c.loop-name-test.false in
    omega (arith, ap length past, c.loop-name.invariant.len)

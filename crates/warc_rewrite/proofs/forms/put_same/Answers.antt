use Rattle.std.proofs.Common.{refl, ap, take}
use Rattle.std.proofs.lemmas.Result.{err_from_is_err_and}
use Rattle.warc_reading.specs.Row.{Row}
use Rattle.warc_rewrite.proofs.EmitLemmas.{both, of_cut_put, of_put, short}
use Rattle.warc_rewrite.proofs.WholeLemmas.{same_begins}
use Rattle.warc_rewrite.proofs.forms.put_same.Goals as goal

pub returns-in_err-put-clause-emits : goal.returns-in_err-put-clause-emits
returns-in_err-put-clause-emits g c =
    let p = err_from_is_err_and c.from_residual.result c.from_residual.ensures.1 in
    rw (p.1, p.2) (short (of_cut_put {Y = Unit {0}} c.in_err-put.ensures) (λ bytes text held is. same_begins (take c.args.len c.args.scratch.now) c.args.row.now bytes text is))

pub returns-clause-emits : goal.returns-clause-emits
returns-clause-emits g c =
    both (of_put {y = tt {0}} c.in_ok-put.ensures) c.put_block.ensures.emits
    (λ bytes text held (rest, closed, is).
    let start = ap (λ (r : Row). r.block_start) c.row.view_is in
    let len = ap (λ (r : Row). r.block_len) c.row.view_is in
    (take c.args.len c.args.scratch.now, rest, is, refl, rw (start, len) closed))

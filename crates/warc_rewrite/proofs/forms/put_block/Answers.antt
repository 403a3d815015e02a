use Rattle.std.proofs.lemmas.Result.{err_from_is_err_and}
use Rattle.warc_rewrite.proofs.EmitLemmas.{both, of_cut_put, of_put, short}
use Rattle.warc_rewrite.proofs.WholeLemmas.{block_begins, block_in_turn}
use Rattle.warc_rewrite.proofs.forms.put_block.Goals as goal

pub returns-in_err-put_range-clause-emits : goal.returns-in_err-put_range-clause-emits
returns-in_err-put_range-clause-emits g c =
    let p = err_from_is_err_and c.from_residual.result c.from_residual.ensures.1 in
    rw (p.1, p.2) (short c.in_err-put_range.ensures.emits (λ bytes text held is. block_begins c.args.start c.args.len bytes text is))

pub returns-clause-emits : goal.returns-clause-emits
returns-clause-emits g c =
    both c.in_ok-put_range.ensures.emits (of_put c.in_ok-put.ensures) (λ bytes text held is. block_in_turn c.args.start c.args.len bytes text is)

pub returns-in_err-put-clause-emits : goal.returns-in_err-put-clause-emits
returns-in_err-put-clause-emits g c =
    let p = err_from_is_err_and c.from_residual-in_err-put.result c.from_residual-in_err-put.ensures.1 in
    rw (p.1, p.2) (both c.in_ok-put_range.ensures.emits (of_cut_put c.in_err-put.ensures) (λ bytes text held is. block_in_turn c.args.start c.args.len bytes text is))

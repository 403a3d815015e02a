use Rattle.std.proofs.lemmas.Result.{err_from_is_err_and}
use Rattle.warc_rewrite.proofs.EmitLemmas.{both, of_cut_put, of_put, short}
use Rattle.warc_rewrite.proofs.WholeLemmas.{copy_begins, copy_in_turn}
use Rattle.warc_rewrite.proofs.forms.put_copied.Goals as goal

pub returns-in_err-put_head-clause-emits : goal.returns-in_err-put_head-clause-emits
returns-in_err-put_head-clause-emits g c =
    let p = err_from_is_err_and c.from_residual.result c.from_residual.ensures.1 in
    rw (p.1, p.2) (short (of_cut_put {Y = Unit {0}} c.in_err-put_head.ensures) (λ bytes text held copy. copy_begins c.args.copy.now bytes text copy))

pub returns-clause-emits : goal.returns-clause-emits
returns-clause-emits g c =
    both (of_put {y = tt {0}} c.in_ok-put_head.ensures) c.put_block.ensures.emits (λ bytes text held copy. copy_in_turn c.args.copy.now bytes text copy)

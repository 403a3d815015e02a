use Rattle.std.proofs.lemmas.Result.{err_from_is_err_and}
use Rattle.warc_lent.proofs.TextLemmas.{memory_of}
use Rattle.warc_lent.proofs.texts.list_text.Goals as goal

pub returns-in_err-list-clause-memory : goal.returns-in_err-list-clause-memory
returns-in_err-list-clause-memory g c =
    let p = err_from_is_err_and c.from_residual.result c.from_residual.ensures.1 in
    rw (p.1, p.2) (memory_of c.in_err-list.field-0.0 c.in_err-list.ensures.write)

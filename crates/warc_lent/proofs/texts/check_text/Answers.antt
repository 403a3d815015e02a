use Rattle.std.proofs.Common.{◌∙◌}
use Rattle.std.proofs.lemmas.Result.{err_from_is_err_and}
use Rattle.warc_lent.proofs.TextLemmas.{fails_of_out, taken_whole, unread_of}
use Rattle.warc_lent.proofs.texts.check_text.Goals as goal

pub returns-clause-findings : goal.returns-clause-findings
returns-clause-findings g c = λ bytes held is.
    c.into_inner.ensures
    ∙ taken_whole c.check.new.out.bytes c.new-lines.result.bytes _ (c.in_ok-check.ensures.checks.reported bytes held is)
    (c.new-lines.ensures.bytes ∙ c.new.ensures.items)

pub returns-in_err-check-clause-fails : goal.returns-in_err-check-clause-fails
returns-in_err-check-clause-fails g c =
    let p = err_from_is_err_and c.from_residual.result c.from_residual.ensures.1 in
    rw (p.1, p.2) (fails_of_out _ c.in_err-check.field-0.0 _ _ c.in_err-check.ensures.checks.fails)

pub returns-in_err-check-clause-refused : goal.returns-in_err-check-clause-refused
returns-in_err-check-clause-refused g c =
    let p = err_from_is_err_and c.from_residual.result c.from_residual.ensures.1 in
    rw (p.1, p.2) (unread_of c.in_err-check.field-0.0)

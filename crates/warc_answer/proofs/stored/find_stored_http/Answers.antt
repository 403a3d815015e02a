use Rattle.std.proofs.lemmas.Result.{err_from_is_err_and}
use Rattle.warc_answer.proofs.StoredLemmas.{headless_seen}
use Rattle.warc_answer.proofs.stored.find_stored_http.Goals as goal

pub returns-in_err-head-clause-seen : goal.returns-in_err-head-clause-seen
returns-in_err-head-clause-seen g c =
    let p = err_from_is_err_and c.from_residual.result c.from_residual.ensures.1 in
    rw (p.1, p.2) (λ bytes held fields lie.
    headless_seen (Unit {0}) (Unit {0}) bytes fields c.args.places.now c.in_err-head.field-0.0 (c.in_err-head.ensures.begins bytes held lie))

pub returns-clause-seen : goal.returns-clause-seen
returns-clause-seen g c = λ bytes held fields lie.
    let is = c.in_ok-head.ensures.begins bytes held lie in
    (is.1, c.stored_after.ensures _ fields bytes is)

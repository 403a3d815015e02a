use Rattle.std.proofs.Common.{false}
use Rattle.std.proofs.lemmas.Result.{err_from_is_err_and}
use Rattle.warc_answer.proofs.KnownLemmas.{headless_good}
use Rattle.warc_answer.proofs.known.find_stored_http.Goals as goal

pub returns-in_err-head-clause-seen : goal.returns-in_err-head-clause-seen
returns-in_err-head-clause-seen g c =
    let p = err_from_is_err_and c.from_residual.result c.from_residual.ensures.1 in
    rw (p.1, p.2) (λ bytes held fields lie fine.
    headless_good (Unit {0}) (Unit {0}) bytes fields c.args.places.now c.in_err-head.field-0.0 fine (c.in_err-head.ensures.begins bytes held lie))

pub returns-clause-seen : goal.returns-clause-seen
returns-clause-seen g c = λ bytes held fields lie fine. (fine, c.stored_after.ensures false fields bytes (c.in_ok-head.ensures.begins bytes held lie))

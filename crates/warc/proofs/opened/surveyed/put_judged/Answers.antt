use Rattle.std.proofs.lemmas.Result.{err_from_is_err_and}
use Rattle.warc_judged.proofs.ClaimLemmas.{puts_cut, puts_then}
use Rattle.warc_replay.specs.PayloadText.{payloads_text}
use Rattle.warc.proofs.opened.surveyed.put_judged.Goals as goal

pub returns-in_err-put_name : goal.returns-in_err-put_name
returns-in_err-put_name g c =
    let e = err_from_is_err_and c.from_residual.result c.from_residual.ensures.1 in
    rw (e.1, e.2) (puts_cut (payloads_text c.args.rows.now c.args.payloads.now) c.in_err-put_name.ensures)

pub returns : goal.returns
returns g c = puts_then c.in_ok-put_name.ensures c.put_payloads.ensures

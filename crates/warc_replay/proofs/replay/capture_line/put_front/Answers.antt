use Rattle.std.proofs.lemmas.Result.{err_from_is_err_and}
use Rattle.warc_judged.proofs.ClaimLemmas.{puts_cut, puts_then}
use Rattle.warc_replay.proofs.replay.capture_line.put_front.Goals as goal

pub returns-in_err-put_columns : goal.returns-in_err-put_columns
returns-in_err-put_columns g c =
    let e = err_from_is_err_and c.from_residual.result c.from_residual.ensures.1 in
    rw (e.1, e.2) (puts_cut c.args.texts.now.front.now c.in_err-put_columns.ensures)

pub returns : goal.returns
returns g c = puts_then c.in_ok-put_columns.ensures c.put.ensures

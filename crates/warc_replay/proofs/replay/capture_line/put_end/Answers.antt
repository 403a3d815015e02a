use Rattle.std.proofs.Common.{[], ◌∷◌, ◌++◌}
use Rattle.std.specs.List.{concat}
use Rattle.std.proofs.lemmas.Result.{err_from_is_err_and}
use Rattle.warc_judged.proofs.ClaimLemmas.{puts_cut, puts_then}
use Rattle.warc_replay.specs.CaptureColumns.{tabbed}
use Rattle.warc_replay.proofs.replay.capture_line.put_end.Goals as goal

pub returns-in_err-put_all : goal.returns-in_err-put_all
returns-in_err-put_all g c =
    let e = err_from_is_err_and c.from_residual.result c.from_residual.ensures.1 in
    rw (e.1, e.2) (puts_cut (concat (tabbed c.args.texts.now.number.now ∷ (c.args.texts.now.target.now ++ 10 ∷ []) ∷ [])) c.in_err-put_all.ensures)

pub returns : goal.returns
returns g c = puts_then c.in_ok-put_all.ensures c.put_columns.ensures

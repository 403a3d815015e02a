use Rattle.std.proofs.Common.{codes}
use Rattle.std.proofs.lemmas.Result.{err_from_is_err_and}
use Rattle.warc_judged.specs.Summary.{summary_text}
use Rattle.warc.specs.Survey.{part_name}
use Rattle.warc_judged.proofs.ClaimLemmas.{puts_cut, puts_then}
use Rattle.warc.proofs.opened.surveyed.put_summary.Goals as goal

pub returns-in_err-put_name : goal.returns-in_err-put_name
returns-in_err-put_name g c =
    let e = err_from_is_err_and c.from_residual.result c.from_residual.ensures.1 in
    rw (e.1, e.2) (puts_cut {X = Unit {0}} (part_name (codes "captures")) (puts_cut (summary_text c.args.summary.now) c.in_err-put_name.ensures))

pub returns-in_err-put : goal.returns-in_err-put
returns-in_err-put g c =
    let e = err_from_is_err_and c.from_residual-in_err-put.result c.from_residual-in_err-put.ensures.1 in
    rw (e.1, e.2) (puts_cut (part_name (codes "captures")) (puts_then c.in_ok-put_name.ensures c.in_err-put.ensures))

pub returns : goal.returns
returns g c = puts_then (puts_then c.in_ok-put_name.ensures c.in_ok-put.ensures) c.put_name-2.ensures

use Rattle.std.proofs.Common.{◌++◌, codes}
use Rattle.std.proofs.lemmas.Result.{err_from_is_err_and}
use Rattle.warc_checking.specs.Checking.{check_text}
use Rattle.warc_reading.specs.Archive.{contents}
use Rattle.warc_judged.specs.Summary.{summary_text}
use Rattle.warc.specs.Survey.{part_name}
use Rattle.warc.proofs.SurveyLemmas.{part_cut, part_of, parts_cut, parts_then}
use Rattle.warc.proofs.opened.surveyed.put_known.Goals as goal

pub returns-in_err-put_two-clause-puts : goal.returns-in_err-put_two-clause-puts
returns-in_err-put_two-clause-puts g c = λ bytes records found.
    let p = err_from_is_err_and c.from_residual.result c.from_residual.ensures.1 in
    let rest = (part_name (codes "check") ++ check_text (contents records)) ++ ((part_name (codes "summary") ++ summary_text c.args.summary.now) ++ part_name (codes "captures")) in
    rw (p.1, p.2) (parts_cut rest (part_cut c.in_err-put_two.ensures))

pub returns-in_err-put_check-clause-puts : goal.returns-in_err-put_check-clause-puts
returns-in_err-put_check-clause-puts g c = λ bytes records found.
    let p = err_from_is_err_and c.from_residual-in_err-put_check.result c.from_residual-in_err-put_check.ensures.1 in
    let rest = (part_name (codes "summary") ++ summary_text c.args.summary.now) ++ part_name (codes "captures") in
    rw (p.1, p.2) (parts_then (part_of c.in_ok-put_two.ensures) (parts_cut rest (c.in_err-put_check.ensures.puts bytes records found)))

pub returns-in_err-put_summary-clause-puts : goal.returns-in_err-put_summary-clause-puts
returns-in_err-put_summary-clause-puts g c = λ bytes records found.
    let p = err_from_is_err_and c.from_residual-in_err-put_summary.result c.from_residual-in_err-put_summary.ensures.1 in
    rw (p.1, p.2) (parts_then (part_of c.in_ok-put_two.ensures) (parts_then (c.in_ok-put_check.ensures.puts bytes records found) (part_cut c.in_err-put_summary.ensures)))

pub returns-clause-puts : goal.returns-clause-puts
returns-clause-puts g c = λ bytes records found.
    parts_then (part_of c.in_ok-put_two.ensures) (parts_then (c.in_ok-put_check.ensures.puts bytes records found) (part_of c.in_ok-put_summary.ensures))

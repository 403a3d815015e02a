use Rattle.std.proofs.lemmas.Result.{err_from_is_err_and}
use Rattle.warc_checking.specs.Checking.{check_text}
use Rattle.warc_reading.specs.Archive.{contents}
use Rattle.warc.proofs.SurveyLemmas.{part_cut, part_of, parts_cut, parts_then, unnumbered}
use Rattle.warc.proofs.opened.surveyed.put_check.Goals as goal

pub returns-in_err-put_name-clause-puts : goal.returns-in_err-put_name-clause-puts
returns-in_err-put_name-clause-puts g c = λ bytes records found.
    let p = err_from_is_err_and c.from_residual.result c.from_residual.ensures.1 in
    rw (p.1, p.2) (parts_cut (check_text (contents records)) (part_cut c.in_err-put_name.ensures))

pub returns-in_err-put_findings-clause-puts : goal.returns-in_err-put_findings-clause-puts
returns-in_err-put_findings-clause-puts g c = λ bytes records found.
    let p = err_from_is_err_and c.from_residual-in_err-put_findings.result c.from_residual-in_err-put_findings.ensures.1 in
    rw (p.1, p.2) (parts_then (part_of c.in_ok-put_name.ensures) (unnumbered (c.in_err-put_findings.ensures.puts bytes records found)))

pub returns-clause-puts : goal.returns-clause-puts
returns-clause-puts g c = λ bytes records found.
    parts_then (part_of c.in_ok-put_name.ensures) (unnumbered (c.in_ok-put_findings.ensures.puts bytes records found))

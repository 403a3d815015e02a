use Rattle.std.proofs.lemmas.Result.{err_from_is_err_and}
use Rattle.warc_replay.specs.Outcomes.{outcome_seen}
use Rattle.warc_replay.proofs.CaptureLineLemmas.{puts_cut, puts_none, puts_one}
use Rattle.warc_replay.proofs.replay.capture_lines.put_next.Goals as goal

pub returns-in-Err-clause-puts : goal.returns-in-Err-clause-puts
returns-in-Err-clause-puts g c =
    let next = c.in-Err.ensures.judges in
    puts_none _ _ _ _ c.args.position c.in-Err.fault _ _ c.after.ensures c.sent.ensures next.early next.inside next.keeps next.fails

pub returns-in-Err-clause-remembers : goal.returns-in-Err-clause-remembers
returns-in-Err-clause-remembers g c = c.in-Err.ensures.judges.remembers

pub returns-in_err-put_line-clause-puts : goal.returns-in_err-put_line-clause-puts
returns-in_err-put_line-clause-puts g c =
    let p = err_from_is_err_and c.from_residual.result c.from_residual.ensures.1 in
    let next = c.in-Ok.ensures.judges in
    rw (p.1, p.2) (puts_cut _ _ _ _ c.args.position (outcome_seen c.in-Ok.outcome) next.chosen next.reported next.inside next.keeps next.fails.may c.in_err-put_line.ensures)

pub returns-in_err-put_line-clause-remembers : goal.returns-in_err-put_line-clause-remembers
returns-in_err-put_line-clause-remembers g c = c.in-Ok.ensures.judges.remembers

pub returns-clause-puts : goal.returns-clause-puts
returns-clause-puts g c =
    let next = c.in-Ok.ensures.judges in
    puts_one _ _ _ _ c.args.position (outcome_seen c.in-Ok.outcome) next.chosen next.reported next.inside next.keeps next.fails.may c.in_ok-put_line.ensures

pub returns-clause-remembers : goal.returns-clause-remembers
returns-clause-remembers g c = c.in-Ok.ensures.judges.remembers

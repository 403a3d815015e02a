use Rattle.std.proofs.Common.{sym, ◌∙◌}
use Rattle.warc_reading.specs.Judging.{verdict_on}
use Rattle.warc_replay.proofs.JudgedLemmas.{takes_verdict}
use Rattle.warc_replay.proofs.record.verdict.take_verdict_at.Goals as goal

pub returns : goal.returns
returns g c =
    takes_verdict verdict_on c.head_of_spelled.ensures c.args.rows.now c.args.position c.in-Some.row _ _ c.take_verdict.result (sym c.get.ensures ∙ c.in-Some.is)
    c.take_verdict.ensures.taken c.take_verdict.ensures.is c.take_verdict.ensures.reads c.take_verdict.ensures.fails

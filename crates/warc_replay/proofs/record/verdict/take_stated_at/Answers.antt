use Rattle.std.proofs.Common.{sym, ◌∙◌}
use Rattle.warc_judged.specs.Fixity.{stated_on}
use Rattle.warc_replay.proofs.JudgedLemmas.{takes_verdict}
use Rattle.warc_replay.proofs.record.verdict.take_stated_at.Goals as goal

pub returns : goal.returns
returns g c =
    takes_verdict stated_on c.head_of_spelled.ensures c.args.rows.now c.args.position c.in-Some.row _ _ c.take_stated.result (sym c.get.ensures ∙ c.in-Some.is)
    c.take_stated.ensures.taken c.take_stated.ensures.is c.take_stated.ensures.reads c.take_stated.ensures.fails

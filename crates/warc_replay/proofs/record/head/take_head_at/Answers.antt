use Rattle.std.proofs.Common.{sym, ◌∙◌}
use Rattle.warc_replay.proofs.HeadingLemmas.{takes_head}
use Rattle.warc_replay.proofs.record.head.take_head_at.Goals as goal

pub returns : goal.returns
returns g c =
    takes_head c.head_of_spelled.ensures c.args.rows.now c.args.position c.in-Some.row _ _ c.take_head.result (sym c.get.ensures ∙ c.in-Some.is)
    c.take_head.ensures.taken c.take_head.ensures.is c.take_head.ensures.reads c.take_head.ensures.fails

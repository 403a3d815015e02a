use Rattle.std.proofs.Common.{sym, ◌∙◌}
use Rattle.warc_replay.proofs.TakeLemmas.{takes_row}
use Rattle.warc_replay.proofs.record.whole.take_record_at.Goals as goal

pub returns : goal.returns
returns g c =
    takes_row c.args.rows.now c.args.position c.in-Some.row _ _ c.take_record.result (sym c.get.ensures ∙ c.in-Some.is)
    c.take_record.ensures.taken c.take_record.ensures.is c.take_record.ensures.whole c.take_record.ensures.reads c.take_record.ensures.fails

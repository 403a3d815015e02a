use Rattle.std.proofs.Common.{sym, ◌∙◌}
use Rattle.warc_replay.proofs.ExtractLemmas.{gives_cut, gives_ok}
use Rattle.warc_replay.proofs.record.range.send_part.Goals as goal

pub returns-in-Ok : goal.returns-in-Ok
returns-in-Ok g c =
    gives_ok c.args.part c.args.rows.now c.args.position _ _ _ _ _ _ _ (sym c.get.ensures ∙ c.in-Some.is) c.range-start.ensures.start c.range-start.ensures.len c.send_range.ensures.reads
    c.in-Ok.ensures.sends.out c.in-Ok.ensures.sends.fails.may c.in-Ok.ensures.sends.cause

pub returns-in-Err : goal.returns-in-Err
returns-in-Err g c =
    gives_cut c.args.part c.args.rows.now c.args.position _ _ _ _ _ _ _ (sym c.get.ensures ∙ c.in-Some.is) c.range-start.ensures.start c.range-start.ensures.len c.send_range.ensures.reads
    c.in-Err.fault c.in-Err.ensures.device c.in-Err.ensures.sends.cut c.in-Err.ensures.sends.fails c.in-Err.ensures.sends.cause

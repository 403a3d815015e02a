use Rattle.warc_replay.proofs.GapLemmas.{kept_before, kept_now}
use Rattle.warc_replay.proofs.replay.known_gaps.keep.Goals as goal

pub returns-in-Ok : goal.returns-in-Ok
returns-in-Ok g c =
    kept_now c.args.table.now c.insert.new.self c.args.segment c.args.len c.len_for.result c.args.gap c.len_for.ensures c.in-Ok.ensures.updates

pub returns-in-Err : goal.returns-in-Err
returns-in-Err g c =
    kept_before c.args.table.now c.insert.new.self c.args.segment c.args.len c.len_for.result c.args.gap c.len_for.ensures c.in-Err.ensures.err

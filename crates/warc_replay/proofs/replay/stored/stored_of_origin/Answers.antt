use Rattle.std.proofs.Common.{Err, ap, ◌∙◌}
use Rattle.warc_replay.proofs.LookLemmas.{asked_within, judged_none, judged_out, origin_read}
use Rattle.warc_replay.proofs.replay.stored.stored_of_origin.Goals as goal

pub returns-in-Ok : goal.returns-in-Ok
returns-in-Ok g c = record {
  reported = λ bytes held is parts. (c.in-Ok.ensures.reported bytes held is parts).0;
  reads = origin_read c.in-Ok.ensures;
  inside = asked_within c.in-Ok.ensures;
  early = tt;
  keeps = c.in-Ok.ensures.keeps;
  fails = record { may = c.in-Ok.ensures.fails.may; failed = c.in-Ok.ensures.fails.failed };
}

pub returns-in-Err-Reason : goal.returns-in-Err-Reason
returns-in-Err-Reason g c = judged_none c.look_at.result c.in-Err-Reason.reason (c.in-Err-Reason.is ∙ ap Err c.in-Err-Reason.field-0-is) c.look_at.ensures

pub returns-in-Err-Out : goal.returns-in-Err-Out
returns-in-Err-Out g c = judged_out c.look_at.result c.in-Err-Out.fault (c.in-Err-Out.is ∙ ap Err c.in-Err-Out.field-0-is) c.look_at.ensures

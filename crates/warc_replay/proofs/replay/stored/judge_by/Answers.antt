use Rattle.std.proofs.Common.{Err, ap, ◌∙◌}
use Rattle.warc_replay.proofs.KnownLemmas.{by_out, by_reason}
use Rattle.warc_replay.proofs.replay.stored.judge_by.Goals as goal

pub returns-in-Ok-clause-judges : goal.returns-in-Ok-clause-judges
returns-in-Ok-clause-judges g c = record {
  reported = c.in-Ok.ensures.looks.reported;
  remembers = c.in-Ok.ensures.looks.remembers;
  early = tt;
  inside = c.in-Ok.ensures.looks.inside;
  keeps = c.in-Ok.ensures.looks.keeps;
  fails = record { may = c.in-Ok.ensures.looks.fails.may; failed = c.in-Ok.ensures.looks.fails.failed };
}

pub returns-in-Err-Reason-clause-judges : goal.returns-in-Err-Reason-clause-judges
returns-in-Err-Reason-clause-judges g c = by_reason c.look_by.result c.in-Err-Reason.reason (c.in-Err-Reason.is ∙ ap Err c.in-Err-Reason.field-0-is) c.look_by.ensures.looks

pub returns-in-Err-Out-clause-judges : goal.returns-in-Err-Out-clause-judges
returns-in-Err-Out-clause-judges g c = by_out c.look_by.result c.in-Err-Out.fault (c.in-Err-Out.is ∙ ap Err c.in-Err-Out.field-0-is) c.look_by.ensures.looks

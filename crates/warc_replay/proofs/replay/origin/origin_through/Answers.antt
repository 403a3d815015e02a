use Rattle.warc_reading.proofs.HeadLemmas.{fails_ended}
use Rattle.warc_replay.proofs.OriginLemmas.{early_may, ended_early, unjoined_failed}
use Rattle.warc_replay.proofs.replay.origin.origin_through.Goals as goal

pub returns-in-Ok-clause-made : goal.returns-in-Ok-clause-made
returns-in-Ok-clause-made g c = λ bytes held is all are. c.origin_in.ensures.made is.placed.content (c.in-Ok.ensures.text bytes held is) is.has.good all are

pub returns-in-Ok-clause-fails : goal.returns-in-Ok-clause-fails
returns-in-Ok-clause-fails g c = record {
  may = early_may c.origin_in.result _ _ c.origin_in.ensures.early c.in-Ok.ensures.fails.may;
  failed = λ bytes held is. unjoined_failed c.origin_in.result _ _ (c.origin_in.ensures.fault is.placed.content (c.in-Ok.ensures.text bytes held is) is.has.good) c.in-Ok.ensures.fails.may;
}

pub returns-in-Err-clause-early : goal.returns-in-Err-clause-early
returns-in-Err-clause-early g c = rw c.after.ensures (ended_early c.in-Err.fault)

pub returns-in-Err-clause-fails : goal.returns-in-Err-clause-fails
returns-in-Err-clause-fails g c = fails_ended c.in-Err.fault c.after.result 0 c.after.ensures c.in-Err.ensures.fails

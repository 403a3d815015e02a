use Rattle.warc_reading.proofs.HeadLemmas.{fails_ended}
use Rattle.warc_replay.proofs.replay.lone.stored_through.Goals as goal

pub returns-in-Ok-clause-made : goal.returns-in-Ok-clause-made
returns-in-Ok-clause-made g c = λ bytes held is. c.stored_in.ensures.made is.placed.content (c.in-Ok.ensures.text bytes held is)

pub returns-in-Err-clause-fails : goal.returns-in-Err-clause-fails
returns-in-Err-clause-fails g c = fails_ended c.in-Err.fault c.after.result 0 c.after.ensures c.in-Err.ensures.fails

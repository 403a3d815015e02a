use Rattle.warc_frame.proofs.EffectLemmas.{fails_more}
use Rattle.warc_reading.proofs.HeadLemmas.{fails_ended}
use Rattle.warc_checking.proofs.JudgeLemmas.{head_there}
use Rattle.warc_replay.proofs.record.comparison.head_of_row.Goals as goal

pub returns-in-Ok-reread_good-clause-read : goal.returns-in-Ok-reread_good-clause-read
returns-in-Ok-reread_good-clause-read g c = λ bytes held is. c.in-Ok-reread_good.ensures.read bytes held (head_there c.args.row.now bytes is)

pub returns-clause-fails : goal.returns-clause-fails
returns-clause-fails g c =
    fails_ended c.in-Err.fault c.after.result 0 c.after.ensures (fails_more (λ bytes held is. head_there c.args.row.now bytes is) c.in-Err.ensures.fails)

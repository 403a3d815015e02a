use Rattle.std.proofs.Common.{ap, ◌∙◌}
use Rattle.warc_frame.proofs.EffectLemmas.{fails_more}
use Rattle.warc_record.specs.Readings.{digest_wanted}
use Rattle.warc_reading.proofs.HeadLemmas.{fails_ended}
use Rattle.warc_checking.proofs.JudgeLemmas.{head_there}
use Rattle.warc_replay.proofs.record.blocks_again.reread_wanted.Goals as goal

pub returns-in-Ok-clause-read : goal.returns-in-Ok-clause-read
returns-in-Ok-clause-read g c = λ bytes held is. c.wanted.ensures ∙ ap digest_wanted (c.in-Ok.ensures.read bytes held (head_there c.args.row.now bytes is))

pub returns-in-Err-clause-fails : goal.returns-in-Err-clause-fails
returns-in-Err-clause-fails g c =
    fails_ended c.in-Err.fault c.after.result 0 c.after.ensures (fails_more (λ bytes held is. head_there c.args.row.now bytes is) c.in-Err.ensures.fails)

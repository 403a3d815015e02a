use Rattle.std.proofs.Common.{true, false}
use Rattle.warc_frame.proofs.EffectLemmas.{fails_more}
use Rattle.warc_answer.proofs.SplitLemmas.{after_bad, after_lie, reads_after_of}
use Rattle.warc_answer.proofs.split.judge_after.Goals as goal

pub returns-in-Ok-true-clause-judged : goal.returns-in-Ok-true-clause-judged
returns-in-Ok-true-clause-judged g c = λ bytes held are.
    after_bad bytes c.args.places.now c.places_after.result.now are true _ c.places_after.ensures (c.in-Ok-true.ensures.judged bytes held) c.in-Ok-true.field-0-test

pub returns-in-Ok-true-clause-reads : goal.returns-in-Ok-true-clause-reads
returns-in-Ok-true-clause-reads g c = reads_after_of c.args.places.now c.places_after.result.now c.places_after.ensures c.in-Ok-true.ensures.reads

pub returns-in-Ok-false-clause-judged : goal.returns-in-Ok-false-clause-judged
returns-in-Ok-false-clause-judged g c = λ bytes held are.
    after_bad bytes c.args.places.now c.places_after.result.now are false _ c.places_after.ensures (c.in-Ok-false.ensures.judged bytes held) c.in-Ok-false.field-0-test

pub returns-in-Ok-false-clause-reads : goal.returns-in-Ok-false-clause-reads
returns-in-Ok-false-clause-reads g c = reads_after_of c.args.places.now c.places_after.result.now c.places_after.ensures c.in-Ok-false.ensures.reads

pub returns-in-Err-clause-reads : goal.returns-in-Err-clause-reads
returns-in-Err-clause-reads g c = reads_after_of c.args.places.now c.places_after.result.now c.places_after.ensures c.in-Err.ensures.reads

pub returns-in-Err-clause-fails : goal.returns-in-Err-clause-fails
returns-in-Err-clause-fails g c = fails_more (λ bytes held are. after_lie bytes c.args.places.now c.places_after.result.now are c.places_after.ensures) c.in-Err.ensures.fails

use Rattle.std.proofs.Common.{refl}
use Rattle.warc_replay.proofs.JudgedLemmas.{reads_one_row}
use Rattle.warc_replay.proofs.record.verdict.take_verdict.Goals as goal

pub returns-in-Ok-judge_again-clause-taken : goal.returns-in-Ok-judge_again-clause-taken
returns-in-Ok-judge_again-clause-taken g c = λ bytes held is.
    (is.placed, refl, (c.in-Ok-judge_again.ensures.judged bytes held is).1)

pub returns-in-Ok-judge_again-clause-reads : goal.returns-in-Ok-judge_again-clause-reads
returns-in-Ok-judge_again-clause-reads g c = reads_one_row c.args.row.now c.judge_again.ensures.reads

pub returns-in-Err-Read-clause-reads : goal.returns-in-Err-Read-clause-reads
returns-in-Err-Read-clause-reads g c = reads_one_row c.args.row.now c.judge_again.ensures.reads

pub returns-clause-reads : goal.returns-clause-reads
returns-clause-reads g c = reads_one_row c.args.row.now c.judge_again.ensures.reads

use Rattle.std.proofs.Common.{false, sym, ◌∙◌}
use Rattle.warc_answer.proofs.JudgeLemmas.{reads_once}
use Rattle.warc_answer.proofs.StoredLemmas.{said_seen}
use Rattle.warc_answer.proofs.stored.find_stored_other.Goals as goal

pub returns-in-Ok-true-clause-reads : goal.returns-in-Ok-true-clause-reads
returns-in-Ok-true-clause-reads g c = reads_once false c.args.places.now c.in-Ok-true.ensures.reads

pub returns-in-Ok-false-clause-reads : goal.returns-in-Ok-false-clause-reads
returns-in-Ok-false-clause-reads g c = reads_once false c.args.places.now c.in-Ok-false.ensures.reads

pub returns-in-Err-clause-reads : goal.returns-in-Err-clause-reads
returns-in-Err-clause-reads g c = reads_once false c.args.places.now c.in-Err.ensures.reads

pub returns-in-Ok-false-clause-seen : goal.returns-in-Ok-false-clause-seen
returns-in-Ok-false-clause-seen g c = λ bytes held fields lie own.
    said_seen bytes fields c.args.places.now c.all_of.result (sym (c.in-Ok-false.ensures.judged bytes held lie) ∙ c.in-Ok-false.field-0-test)
    (c.all_of.ensures.seen bytes fields own) c.all_of.ensures.memory

use Rattle.std.proofs.Common.{false}
use Rattle.warc_answer.proofs.JudgeLemmas.{reads_once}
use Rattle.warc_answer.proofs.known_digest.any_bad_by.Goals as goal

pub returns-in-Unchecked-clause-reads : goal.returns-in-Unchecked-clause-reads
returns-in-Unchecked-clause-reads g c = reads_once false c.args.places.now c.any_bad.ensures.reads

use Rattle.warc.proofs.LawLemmas.{refused_for_fault}
use Rattle.warc.proofs.laws.memory_is_refused_for_faults.Goals as goal

pub returns : goal.returns
returns c = refused_for_fault

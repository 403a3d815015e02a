use Rattle.warc.proofs.LawLemmas.{one_fault}
use Rattle.warc.proofs.laws.first_fault_is_unique.Goals as goal

pub returns : goal.returns
returns c = one_fault

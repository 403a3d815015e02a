use Rattle.warc_frame.proofs.LawLemmas.{first_fault_is_unique}
use Rattle.warc_frame.proofs.laws.first_fault_is_unique.Goals as goal

pub returns : goal.returns
returns c = first_fault_is_unique

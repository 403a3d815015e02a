use Rattle.warc_frame.proofs.JudgedLemmas.{judged_refuted, judged_cut, head_with_findings}
use Rattle.warc_frame.proofs.laws.first_fault_of_judged_heads.Goals as goal

pub returns-clause-refuted : goal.returns-clause-refuted
returns-clause-refuted c = judged_refuted

pub returns-clause-cut : goal.returns-clause-cut
returns-clause-cut c = judged_cut

pub returns-clause-head : goal.returns-clause-head
returns-clause-head c = head_with_findings

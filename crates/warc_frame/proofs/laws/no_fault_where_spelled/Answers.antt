use Rattle.warc_frame.proofs.LawLemmas.{no_fault_where_spelled, no_fault_where_spelled-or}
use Rattle.warc_frame.proofs.laws.no_fault_where_spelled.Goals as goal

pub returns-clause-not_both : goal.returns-clause-not_both
returns-clause-not_both c = no_fault_where_spelled

pub returns-clause-one_of_them : goal.returns-clause-one_of_them
returns-clause-one_of_them c = no_fault_where_spelled-or

use Rattle.warc.proofs.LawLemmas.{no_fault, some_fault}
use Rattle.warc.proofs.laws.no_fault_where_spelled.Goals as goal

pub returns-clause-not_both : goal.returns-clause-not_both
returns-clause-not_both c = no_fault

pub returns-clause-one_of_them : goal.returns-clause-one_of_them
returns-clause-one_of_them c = some_fault

use Rattle.warc_frame.proofs.LawLemmas.{spelling_is_unambiguous, spelling_is_unambiguous-list}
use Rattle.warc_frame.proofs.laws.spelling_is_unambiguous.Goals as goal

pub returns-clause-record : goal.returns-clause-record
returns-clause-record c = spelling_is_unambiguous

pub returns-clause-list : goal.returns-clause-list
returns-clause-list c = spelling_is_unambiguous-list

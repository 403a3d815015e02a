use Rattle.warc_frame.proofs.FrontLemmas.{fault_at, found_at, only_at}
use Rattle.warc_frame.proofs.front.read_one.Goals as goal

pub returns-clause-found : goal.returns-clause-found
returns-clause-found g c = found_at _ _ c.read_front.ensures.exact

pub returns-clause-only : goal.returns-clause-only
returns-clause-only g c = λ r front rest s e. only_at _ _ r front rest c.read_front.ensures.exact s e

pub returns-clause-fault : goal.returns-clause-fault
returns-clause-fault g c = λ some. fault_at _ _ some c.read_front.ensures.exact

use Rattle.warc.proofs.NeedLemmas.{needed_are_closed, others_are_closed}
use Rattle.warc.proofs.laws.closed_selections_are_closed.Goals as goal

pub returns-clause-needed : goal.returns-clause-needed
returns-clause-needed c = needed_are_closed

pub returns-clause-others : goal.returns-clause-others
returns-clause-others c = others_are_closed

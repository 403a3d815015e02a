use Rattle.warc_checking.proofs.OwnFindingLemmas.{rest_forgotten}
use Rattle.warc_checking.proofs.finding_parts.forget_rest.Goals as goal

pub returns-clause-last : goal.returns-clause-last
returns-clause-last g c = (rest_forgotten _ _ c.args.ends.now _ c.end_before.ensures c.truncate.ensures c.requires).0

pub returns-clause-within : goal.returns-clause-within
returns-clause-within g c = (rest_forgotten _ _ c.args.ends.now _ c.end_before.ensures c.truncate.ensures c.requires).1

pub returns-clause-same : goal.returns-clause-same
returns-clause-same g c = (rest_forgotten _ _ c.args.ends.now _ c.end_before.ensures c.truncate.ensures c.requires).2

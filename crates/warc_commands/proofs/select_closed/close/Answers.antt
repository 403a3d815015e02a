use Rattle.warc_commands.proofs.ClosedLemmas.{closes_needed, closes_others}
use Rattle.warc_commands.proofs.select_closed.close.Goals as goal

pub returns-then-except-clause-closes : goal.returns-then-except-clause-closes
returns-then-except-clause-closes g c = closes_others c.args.except c.if-except.true c.closed_others.ensures.closes

pub returns-clause-closes : goal.returns-clause-closes
returns-clause-closes g c = closes_needed c.args.except c.if-except.false c.closed.ensures.closes

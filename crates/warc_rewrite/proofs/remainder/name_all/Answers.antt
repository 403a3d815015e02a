use Rattle.warc_rewrite.proofs.StatusLemmas.{named_next}
use Rattle.warc_rewrite.proofs.remainder.name_all.Goals as goal

pub naming-preserved : goal.naming-preserved
naming-preserved c =
    named_next c.args.positions.now c.naming.position-index c.args.statuses.now c.naming.statuses c.set_status.new.statuses
    c.naming-test.true c.naming.invariant c.set_status.ensures.inside c.set_status.ensures.past

use Rattle.warc_order.specs.Entries.{IsUpTo}
use Rattle.warc_index.proofs.PassLemmas.{back, IsOnWay, left}
use Rattle.warc_index.proofs.LinkedLemmas.{digest_test}
use Rattle.warc_index.proofs.lookup.latest_of_payload.Given as goal

abbrev pub invariant-loop-previous : goal.invariant-loop-previous
invariant-loop-previous g l =
    IsOnWay back l.by_target (IsUpTo l.target l.fn.mark) (digest_test l.digest l.links) l.previous

abbrev pub decreases-loop-previous : goal.decreases-loop-previous
decreases-loop-previous g l = left back l.by_target l.previous

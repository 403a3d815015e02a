use Rattle.warc_order.specs.Entries.{IsFrom}
use Rattle.warc_index.proofs.PassLemmas.{forward, IsOnWay, left}
use Rattle.warc_index.proofs.LinkedLemmas.{pair_test}
use Rattle.warc_index.proofs.lookup.first_of_pair.Given as goal

abbrev pub invariant-loop-next : goal.invariant-loop-next
invariant-loop-next g l = IsOnWay forward l.by_target (IsFrom l.target l.mark) (pair_test l.mark l.links) l.next

abbrev pub decreases-loop-next : goal.decreases-loop-next
decreases-loop-next g l = left forward l.by_target l.next

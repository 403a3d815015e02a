use Rattle.std.proofs.Common.{◌≡◌, ◌<◌, List, length}
use Rattle.std.specs.Prelude.{IfSome}
use Rattle.warc_index.specs.Captures.{Indexed}
use Rattle.warc_index.specs.Orders.{capture_entry, entries_from}
use Rattle.warc_index.proofs.CaptureLemmas.{AreTimed, IsGathered}
use Rattle.warc_index.proofs.PassLemmas.{forward, left}
use Rattle.warc_index.proofs.lookup.captures_of.Given as goal

-- the captures up to the next entry
abbrev pub invariant-loop-next : goal.invariant-loop-next
invariant-loop-next g l = record {
  within : IfSome l.next (λ found. found.index < length l.by_target);
  gathered : (all : List Indexed) → AreTimed all → l.by_target ≡ entries_from capture_entry 0 all
      → IsGathered all l.target l.by_target l.next l.positions.items;
}

abbrev pub decreases-loop-next : goal.decreases-loop-next
decreases-loop-next g l = left forward l.by_target l.next

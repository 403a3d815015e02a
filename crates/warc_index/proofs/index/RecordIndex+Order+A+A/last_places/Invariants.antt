use Rattle.std.proofs.Common.{◌≡◌, ℕ, ◌-◌, ◌≤◌, List, length}
use Rattle.warc_index.specs.Captures.{Indexed}
use Rattle.warc_index.specs.Chains.{AreReached}
use Rattle.warc_index.specs.Orders.{IsIndexOf}
use Rattle.warc_index.specs.Referents.{next_of}
use Rattle.warc_index.proofs.index.RecordIndex+Order+A+A.last_places.Given as goal

-- each way was followed for at least `least` steps
abbrev pub invariant-doubling : goal.invariant-doubling
invariant-doubling g l = record {
  some : 1 ≤ l.steps;
  are : (all : List Indexed) → IsIndexOf all l.self → AreReached (next_of all) l.steps l.places.items;
}

abbrev pub decreases-doubling : goal.decreases-doubling
decreases-doubling g l = l.self.count - l.steps

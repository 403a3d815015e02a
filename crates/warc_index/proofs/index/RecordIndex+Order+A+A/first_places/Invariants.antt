use Rattle.std.proofs.Common.{◌≡◌, ℕ, ◌<◌, List, length}
use Rattle.warc_index.specs.Captures.{Indexed}
use Rattle.warc_index.specs.Chains.{onward, place_for}
use Rattle.warc_index.specs.Orders.{IsIndexOf}
use Rattle.warc_index.specs.Referents.{next_of}
use Rattle.warc_index.proofs.index.RecordIndex+Order+A+A.first_places.Given as goal

-- the places so far
abbrev pub invariant-stepping : goal.invariant-stepping
invariant-stepping g l = record {
  long : length l.places.items ≡ l.position;
  each : (all : List Indexed) → IsIndexOf all l.self → (p : ℕ) → p < l.position → place_for l.places.items p ≡ onward
      (next_of all) p;
}

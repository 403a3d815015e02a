use Rattle.std.proofs.Common.{◌≡◌, ◌∷◌, ◌++◌, [], ℕ, ◌<◌, List, length}
use Rattle.std.specs.Prelude.{count_by}
use Rattle.warc_index.specs.Captures.{Indexed}
use Rattle.warc_index.specs.Orders.{IsIndexOf}
use Rattle.warc_index.specs.Referents.{next_of}
use Rattle.warc_rewrite.specs.Marks.{AreMarked, AreMarkedBut, HasNoSegment, is_free}
use Rattle.warc_rewrite.proofs.needs.mark_way.Given as goal

-- what the way has passed is marked
abbrev pub invariant-walking : goal.invariant-walking
invariant-walking g l = record {
  same : length l.marks ≡ length l.fn.marks;
  plain : HasNoSegment l.fn.marks → HasNoSegment l.marks;
  way : (all : List Indexed) (positions : List ℕ) → IsIndexOf all l.index → length l.fn.marks ≡ length all
      → AreMarked (next_of all) positions l.fn.marks → l.position < length all
      → AreMarkedBut (next_of all) (positions ++ l.position ∷ []) l.at l.marks;
}

abbrev pub decreases-walking : goal.decreases-walking
decreases-walking g l = count_by is_free l.marks

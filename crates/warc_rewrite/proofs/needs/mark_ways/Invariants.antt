use Rattle.std.proofs.Common.{◌≡◌, [], ◌<◌, List, length, take}
use Rattle.std.specs.Prelude.{All}
use Rattle.warc_index.specs.Captures.{Indexed}
use Rattle.warc_index.specs.Orders.{IsIndexOf}
use Rattle.warc_index.specs.Referents.{next_of}
use Rattle.warc_rewrite.specs.Marks.{AreMarked, HasNoSegment}
use Rattle.warc_rewrite.proofs.needs.mark_ways.Given as goal

-- the ways so far are marked
abbrev pub invariant-marking : goal.invariant-marking
invariant-marking g l = record {
  same : length l.marks ≡ length l.fn.marks;
  plain : HasNoSegment l.fn.marks → HasNoSegment l.marks;
  marked : (all : List Indexed) → IsIndexOf all l.index → length l.fn.marks ≡ length all
      → AreMarked (next_of all) [] l.fn.marks → All (λ p. p < length all) l.positions
      → AreMarked (next_of all) (take l.position-index l.positions) l.marks;
}

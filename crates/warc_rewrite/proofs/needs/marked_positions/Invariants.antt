use Rattle.warc_rewrite.specs.Marks.{AreWhere, marks_needed, mark_in}
use Rattle.warc_rewrite.proofs.needs.marked_positions.Given as goal

-- the marked positions so far
abbrev pub invariant-listing : goal.invariant-listing
invariant-listing g l = AreWhere (λ p. marks_needed (mark_in l.marks p)) l.position l.positions.items

use Rattle.warc_rewrite.specs.Marks.{AreWhere}
use Rattle.warc_rewrite.specs.Statuses.{needs_none, status_at}
use Rattle.warc_rewrite.proofs.remainder.kept_positions.Given as goal

-- the kept positions so far
abbrev pub invariant-listing : goal.invariant-listing
invariant-listing g l = AreWhere (λ p. needs_none (status_at l.statuses p)) l.position l.positions.items

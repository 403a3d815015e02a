use Rattle.std.proofs.Common.{◌≢◌, ℕ, take}
use Rattle.std.specs.Prelude.{Contains}
use Rattle.warc_rewrite.specs.declared.remainder.Status.TheVariants.{Named}
use Rattle.warc_rewrite.specs.Statuses.{status_at}
use Rattle.warc_rewrite.proofs.remainder.has_named.Given as goal

-- none of the positions so far is named
abbrev pub invariant-looking : goal.invariant-looking
invariant-looking l = (q : ℕ) → Contains (take l.position-index l.positions) q → status_at l.statuses q ≢ Named

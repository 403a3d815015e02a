use Rattle.std.proofs.Common.{length}
use Rattle.warc_quick.specs.Canonical.{BeginsCanonically}
use Rattle.warc_quick.proofs.canonical.has_canonical_lines.Given as goal

-- the text begins with canonical lines so far, and the rest follows
abbrev pub invariant-loop-rest : goal.invariant-loop-rest
invariant-loop-rest l = BeginsCanonically l.text l.rest

abbrev pub decreases-loop-rest : goal.decreases-loop-rest
decreases-loop-rest l = length l.rest

use Rattle.std.proofs.Common.{◌≡◌, take}
use Rattle.warc_judged.specs.Claims.{settled_claims}
use Rattle.warc_judged.proofs.counts.settle_claims.Given as goal

-- the claims so far are settled
abbrev pub invariant-settling : goal.invariant-settling
invariant-settling l = l.claims ≡ settled_claims l.fn.claims (take l.i l.stated)

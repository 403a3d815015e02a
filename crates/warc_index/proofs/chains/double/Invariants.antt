use Rattle.std.proofs.Common.{ℕ, Option}
use Rattle.warc_index.specs.Chains.{AreReached}
use Rattle.warc_index.proofs.ReachLemmas.{AreDoubled}
use Rattle.warc_index.proofs.chains.double.Given as goal

-- the ways from the first positions were taken on
abbrev pub invariant-doubling : goal.invariant-doubling
invariant-doubling l =
    (next : ℕ → Option ℕ) (least : ℕ) → AreReached next least l.fn.places → AreDoubled next least l.position l.places

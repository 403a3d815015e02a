use Rattle.std.proofs.Common.{◌≡◌, ℕ, List, length, map, take}
use Rattle.warc_checking.specs.Batch.{digest_in, verdicts_in}
use Rattle.warc_checking.proofs.batch.compare_each.Given as goal

-- the blocks so far are compared
abbrev pub invariant-comparing : goal.invariant-comparing
invariant-comparing l = record {
  places : length l.verdicts ≡ length l.waiting;
  compared : (blocks : List ℕ) → l.digests ≡ map (digest_in blocks) l.waiting
      → take l.i l.verdicts ≡ verdicts_in blocks (take l.i l.waiting);
}

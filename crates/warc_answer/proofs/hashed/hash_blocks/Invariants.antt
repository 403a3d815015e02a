use Rattle.std.proofs.Common.{◌≡◌, ◌-◌, ◌++◌, ℕ, List, Some, length, take, drop}
use Rattle.warc_fixity.specs.Judged.{HasherHasTaken}
use Rattle.warc_fixity.specs.declared.names.Algorithm.{Algorithm}
use Rattle.warc_answer.specs.Places.{LieIn, ReadsPlaces, len_of, text_at}
use Rattle.warc_answer.proofs.hashed.hash_blocks.Given as goal

-- the blocks so far were taken, without what is cut at their front, and nothing has failed
abbrev pub invariant-adding : goal.invariant-adding
invariant-adding g l = record {
  left : (bytes : List ℕ) → LieIn l.places bytes
      → l.left ≡ l.fn.skip - length (text_at (take l.place-index l.places) bytes);
  taken : (bytes : List ℕ) → (g.S.Source.seen l.fn.source).holds ≡ Some bytes → LieIn l.places bytes
      → (by : Algorithm) (before : List ℕ) → HasherHasTaken l.fn.hasher by before
      → HasherHasTaken l.hasher by (before ++ drop l.fn.skip (text_at (take l.place-index l.places) bytes));
  sound : (g.S.Source.seen l.source).faults ≡ (g.S.Source.seen l.fn.source).faults;
  read : ReadsPlaces l.places (len_of (take l.place-index l.places))
      (g.S.Source.seen l.fn.source)
      (g.S.Source.seen l.source);
}

use Rattle.std.proofs.Common.{◌≡◌, ◌≤◌, ℕ, List, length, min, take, Some}
use Rattle.warc_answer.specs.Places.{LieIn, ReadsPlaces, len_of, text_at}
use Rattle.warc_answer.proofs.blocks.read_front.Given as goal

-- the front of the buffer has the blocks so far, as far as it goes, and no read has failed
abbrev pub invariant-reading : goal.invariant-reading
invariant-reading g l = record {
  within : l.filled ≤ length l.front;
  count : (bytes : List ℕ) → LieIn l.places bytes
      → l.filled ≡ min (length l.front) (length (text_at (take l.place-index l.places) bytes));
  bytes : (bytes : List ℕ) → (g.S.Source.seen l.fn.source).holds ≡ Some bytes → LieIn l.places bytes
      → take l.filled l.front ≡ take (length l.front) (text_at (take l.place-index l.places) bytes);
  sound : (g.S.Source.seen l.source).faults ≡ (g.S.Source.seen l.fn.source).faults;
  read : ReadsPlaces l.places (len_of (take l.place-index l.places))
      (g.S.Source.seen l.fn.source)
      (g.S.Source.seen l.source);
}

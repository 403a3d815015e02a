use Rattle.std.proofs.Common.{◌≡◌, ◌≤◌, ℕ, List, false, length, min, take, Some}
use Rattle.warc_answer.specs.Giving.{any_bad_at}
use Rattle.warc_answer.specs.Places.{LieIn, ReadsPlaces, checked_places, len_of, text_at}
use Rattle.warc_answer.proofs.blocks.judge_each.Given as goal

-- the blocks so far aren't bad, the front of the buffer has them, as far as it goes, and no read has failed
abbrev pub invariant-judging : goal.invariant-judging
invariant-judging g l = record {
  within : l.filled ≤ length l.front;
  count : (bytes : List ℕ) → LieIn l.places bytes
      → l.filled ≡ min (length l.front) (length (text_at (take l.place-index l.places) bytes));
  bytes : (bytes : List ℕ) → (g.S.Source.seen l.fn.source).holds ≡ Some bytes → LieIn l.places bytes
      → take l.filled l.front ≡ take (length l.front) (text_at (take l.place-index l.places) bytes);
  good : (bytes : List ℕ) → (g.S.Source.seen l.fn.source).holds ≡ Some bytes → LieIn l.places bytes
      → any_bad_at bytes (take l.place-index l.places) ≡ false;
  sound : (g.S.Source.seen l.source).faults ≡ (g.S.Source.seen l.fn.source).faults;
  read : ReadsPlaces l.places (len_of (take l.place-index l.places))
      (g.S.Source.seen l.fn.source)
      (g.S.Source.seen l.source);
  checked : length l.front ≡ 0 → ReadsPlaces (checked_places l.places) (len_of (checked_places (take l.place-index l.places)))
      (g.S.Source.seen l.fn.source)
      (g.S.Source.seen l.source);
}

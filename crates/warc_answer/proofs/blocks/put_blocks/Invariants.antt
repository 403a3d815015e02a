use Rattle.std.proofs.Common.{◌≡◌, ◌-◌, ◌++◌, ℕ, List, Option, Some, length, take, drop}
use Rattle.warc_frame.specs.Send.{IsStaged}
use Rattle.warc_answer.specs.Places.{LieIn, ReadsPlaces, len_of, text_at}
use Rattle.warc_answer.proofs.blocks.put_blocks.Given as goal

-- the blocks so far are staged, without what is cut at their front, and nothing has failed
abbrev pub invariant-putting : goal.invariant-putting
invariant-putting g l = record {
  left : (bytes : List ℕ) → LieIn l.places bytes
      → l.left ≡ l.fn.skip - length (text_at (take l.place-index l.places) bytes);
  staged : (bytes : List ℕ) (start : Option (List ℕ)) (output : List ℕ) → (g.S.Source.seen l.fn.source).holds ≡ Some bytes
      → LieIn l.places bytes → IsStaged start output ((g.W.Sink.seen l.fn.out).reports) l.fn.buffer
      → IsStaged start (output ++ drop l.fn.skip (text_at (take l.place-index l.places) bytes)) ((g.W.Sink.seen l.out).reports)
      l.buffer;
  sound : (g.S.Source.seen l.source).faults ≡ (g.S.Source.seen l.fn.source).faults;
  silent : (g.W.Sink.seen l.out).faults ≡ (g.W.Sink.seen l.fn.out).faults;
  read : ReadsPlaces l.places (len_of (take l.place-index l.places))
      (g.S.Source.seen l.fn.source)
      (g.S.Source.seen l.source);
}

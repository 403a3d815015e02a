use Rattle.std.proofs.Common.{◌≡◌, ◌-◌, ℕ, List, length, take, drop}
use Rattle.warc_answer.specs.Located.{AreInside, spans_text}
use Rattle.warc_answer.specs.Places.{LieIn, text_at}
use Rattle.warc_answer.proofs.located.cut_front.Given as goal

-- the spans so far are the first blocks, without what is cut at their front
abbrev pub invariant-cutting : goal.invariant-cutting
invariant-cutting g l = record {
  left : (bytes : List ℕ) → LieIn l.places bytes
      → l.left ≡ l.fn.skip - length (text_at (take l.place-index l.places) bytes);
  text : (bytes : List ℕ) → LieIn l.places bytes
      → spans_text l.spans.items bytes ≡ drop l.fn.skip (text_at (take l.place-index l.places) bytes);
  within : (bytes : List ℕ) → LieIn l.places bytes → AreInside l.spans.items bytes;
}

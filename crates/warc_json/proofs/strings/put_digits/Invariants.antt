use Rattle.std.proofs.Common.{◌≡◌, ◌++◌, ℕ, List, Option, take, flat_map}
use Rattle.warc_json.proofs.EscapeLemmas.{digits_of}
use Rattle.warc_frame.specs.Send.{IsStaged}
use Rattle.warc_json.proofs.strings.put_digits.Given as goal

-- the bytes so far are staged, and no write has failed
abbrev pub invariant-putting : goal.invariant-putting
invariant-putting g l = record {
  staged : (start : Option (List ℕ)) (output : List ℕ) → IsStaged start output ((g.W.Sink.seen l.fn.out).reports) l.fn.buffer
      → IsStaged start (output ++ flat_map digits_of (take l.byte-index l.bytes)) ((g.W.Sink.seen l.out).reports) l.buffer;
  sound : (g.W.Sink.seen l.out).faults ≡ (g.W.Sink.seen l.fn.out).faults;
}

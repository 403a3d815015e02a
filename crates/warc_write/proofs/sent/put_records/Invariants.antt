use Rattle.std.proofs.Common.{◌≡◌, ◌++◌, ℕ, List, Option, take}
use Rattle.warc_frame.specs.Send.{IsStaged}
use Rattle.warc_write.specs.Rendering.{canonical_texts}
use Rattle.warc_write.proofs.sent.put_records.Given as goal

-- the texts of the records so far are staged, and no write has failed
abbrev pub invariant-putting : goal.invariant-putting
invariant-putting g l = record {
  staged : (start : Option (List ℕ)) (output : List ℕ) → IsStaged start output ((g.W.Sink.seen l.fn.out).reports) l.fn.buffer
      → IsStaged start (output ++ canonical_texts (take l.framed-index l.records)) ((g.W.Sink.seen l.out).reports) l.buffer;
  sound : (g.W.Sink.seen l.out).faults ≡ (g.W.Sink.seen l.fn.out).faults;
}

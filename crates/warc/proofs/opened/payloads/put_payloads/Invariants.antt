use Rattle.std.proofs.Common.{◌≡◌, ◌++◌, ℕ, List, Option, take}
use Rattle.warc_frame.specs.Send.{IsStaged}
use Rattle.warc_replay.specs.PayloadText.{payload_lines}
use Rattle.warc.proofs.opened.payloads.put_payloads.Given as goal

-- the lines of the rows so far are staged, and no write has failed
abbrev pub invariant-listing : goal.invariant-listing
invariant-listing g l = record {
  staged : (start : Option (List ℕ)) (output : List ℕ) → IsStaged start output ((g.W.Sink.seen l.fn.out).reports) l.fn.buffer
      → IsStaged start (output ++ payload_lines l.payloads (take l.position l.rows)) ((g.W.Sink.seen l.out).reports) l.buffer;
  sound : (g.W.Sink.seen l.out).faults ≡ (g.W.Sink.seen l.fn.out).faults;
}

use Rattle.std.proofs.Common.{◌≡◌, ◌++◌, ℕ, List, Option, map, take}
use Rattle.std.specs.List.{concat}
use Rattle.warc_frame.specs.Send.{IsStaged}
use Rattle.warc_judged.specs.Summary.{number_line}
use Rattle.warc_judged.proofs.summary.put_numbers.Given as goal

-- the lines so far are staged, and no write has failed
abbrev pub invariant-putting : goal.invariant-putting
invariant-putting g l = record {
  staged : (start : Option (List ℕ)) (output : List ℕ) → IsStaged start output ((g.W.Sink.seen l.fn.out).reports) l.fn.buffer
      → IsStaged start (output ++ concat (map (λ n. number_line (n.0.now, n.1)) (take l.number-index l.numbers))) ((g.W.Sink.seen l.out).reports) l.buffer;
  sound : (g.W.Sink.seen l.out).faults ≡ (g.W.Sink.seen l.fn.out).faults;
}

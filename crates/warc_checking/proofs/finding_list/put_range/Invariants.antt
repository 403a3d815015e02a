use Rattle.std.proofs.Common.{◌≡◌, ◌++◌, ℕ, List, Option, map, take}
use Rattle.std.specs.List.{filter}
use Rattle.warc_frame.specs.Send.{IsStaged}
use Rattle.warc_checking.specs.Lines.{record_lines}
use Rattle.warc_checking.specs.OwnFindings.{finding_in, is_between}
use Rattle.warc_checking.proofs.finding_list.put_range.Given as goal

-- the lines of the findings so far are staged, and no write has failed
abbrev pub invariant-putting : goal.invariant-putting
invariant-putting g l = record {
  staged : (start : Option (List ℕ)) (output : List ℕ) → IsStaged start output ((g.W.Sink.seen l.fn.out).reports) l.fn.buffer
      → IsStaged start (output ++ record_lines l.position (filter (is_between l.numbers.above l.numbers.below) (map (finding_in l.names) (take l.packed-index l.findings)))) ((g.W.Sink.seen l.out).reports) l.buffer;
  sound : (g.W.Sink.seen l.out).faults ≡ (g.W.Sink.seen l.fn.out).faults;
}

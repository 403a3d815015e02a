use Rattle.std.proofs.Common.{◌≡◌, ◌≤◌, ◌-◌, ◌++◌, ℕ, List, Option, Some, take, drop}
use Rattle.warc_frame.specs.Effects.{ReadsOnly}
use Rattle.warc_frame.specs.Seen.{IsInRange}
use Rattle.warc_frame.specs.Send.{IsStaged}
use Rattle.warc_frame.proofs.ranges.put_range.Given as goal

-- the range so far is staged, each read gave at least one byte, and nothing has failed
abbrev pub invariant-copying : goal.invariant-copying
invariant-copying g l = record {
  within : l.done ≤ l.len;
  staged : (bytes : List ℕ) (start : Option (List ℕ)) (output : List ℕ) → (g.S.Source.seen l.fn.source).holds ≡ Some bytes
      → IsStaged start output ((g.W.Sink.seen l.fn.out).reports) l.fn.buffer
      → IsStaged start (output ++ take l.done (drop l.at bytes)) ((g.W.Sink.seen l.out).reports) l.buffer;
  read : ReadsOnly (IsInRange l.at l.len) l.done
      (g.S.Source.seen l.fn.source)
      (g.S.Source.seen l.source);
  sound : (g.S.Source.seen l.source).faults ≡ (g.S.Source.seen l.fn.source).faults;
  silent : (g.W.Sink.seen l.out).faults ≡ (g.W.Sink.seen l.fn.out).faults;
}

abbrev pub decreases-copying : goal.decreases-copying
decreases-copying g l = l.len - l.done

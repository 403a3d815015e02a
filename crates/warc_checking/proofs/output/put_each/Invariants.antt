use Rattle.std.proofs.Common.{◌≡◌, ◌++◌, ℕ, List, Option, length, map, take}
use Rattle.warc_frame.specs.Count.{capped}
use Rattle.warc_frame.specs.Send.{IsStaged}
use Rattle.warc_reading.specs.Archive.{contents}
use Rattle.warc_reading.specs.Row.{Placed}
use Rattle.warc_checking.specs.Lines.{findings_of_first, first_text}
use Rattle.warc_checking.specs.OwnFindings.{AreJudged, all_of}
use Rattle.warc_checking.specs.UsedIds.{HoldsIdsOf, IsTally}
use Rattle.warc_checking.proofs.output.put_each.Given as goal

-- the lines of the records so far are staged, their ids are held, and nothing has failed
abbrev pub invariant-reporting : goal.invariant-reporting
invariant-reporting g l = record {
  tally : IsTally (length l.rows) l.rows l.ids.counts l.ids.buckets;
  staged : (bytes : List ℕ) (records : List Placed) (start : Option (List ℕ)) (output : List ℕ) → AreJudged bytes records l.rows (map all_of l.findings)
      → IsStaged start output ((g.W.Sink.seen l.fn.out).reports) l.fn.buffer
      → IsStaged start (output ++ first_text l.position (contents records)) ((g.W.Sink.seen l.out).reports) l.buffer;
  ids : (bytes : List ℕ) (records : List Placed) → AreJudged bytes records l.rows (map all_of l.findings) → HoldsIdsOf (take l.position (contents records)) l.ids;
  number : (bytes : List ℕ) (records : List Placed) → AreJudged bytes records l.rows (map all_of l.findings)
      → l.count ≡ capped (length (findings_of_first l.position (contents records)));
  silent : (g.W.Sink.seen l.out).faults ≡ (g.W.Sink.seen l.fn.out).faults;
}

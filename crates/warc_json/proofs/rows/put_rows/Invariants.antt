use Rattle.std.proofs.Common.{◌≡◌, ◌++◌, ℕ, List, Option, take}
use Rattle.warc_frame.specs.Send.{IsStaged}
use Rattle.warc_json.specs.Rows.{json_listing}
use Rattle.warc_json.proofs.rows.put_rows.Given as goal

-- the lines of the rows so far are staged, and no write has failed
abbrev pub invariant-listing : goal.invariant-listing
invariant-listing g l = record {
  staged : (start : Option (List ℕ)) (output : List ℕ) → IsStaged start output ((g.W.Sink.seen l.fn.out).reports) l.fn.buffer
      → IsStaged start (output ++ json_listing (take l.position l.listing.rows)) ((g.W.Sink.seen l.out).reports) l.buffer;
  sound : (g.W.Sink.seen l.out).faults ≡ (g.W.Sink.seen l.fn.out).faults;
}

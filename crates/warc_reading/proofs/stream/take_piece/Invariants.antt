use Rattle.std.proofs.Common.{ℕ, ◌-◌, ◌≤◌, List, ◌++◌, length, take}
use Rattle.warc_frame.specs.Decoding.{IsAt}
use Rattle.warc_frame.specs.Reported.{Reported}
use Rattle.warc_reading.specs.Row.{Placed}
use Rattle.warc_reading.specs.Stream.{BeginsSince, Extends, Since, IsReadSoFar}
use Rattle.warc_reading.proofs.stream.take_piece.Given as goal

-- the piece was taken up to here
abbrev pub invariant-taking : goal.invariant-taking
invariant-taking g l = record {
  within : l.from ≤ length l.piece;
  is_present : (was : List Placed) (text : List ℕ) → IsReadSoFar g.L.Block.TakeBlock.has_seen (Since g.L.Keep.keeps was) text l.initial.decoder l.initial.reading
      → IsReadSoFar g.L.Block.TakeBlock.has_seen (Since g.L.Keep.keeps was) (text ++ take l.from l.piece) l.decoder l.reading;
  begins : (was : List Placed) (text : List ℕ) → IsReadSoFar g.L.Block.TakeBlock.has_seen (Since g.L.Keep.keeps was) text l.initial.decoder l.initial.reading → BeginsSince text l.initial.reading.begin l.reading.begin;
  rows : Extends l.initial.reading.rows l.reading.rows;
  taken : (at : ℕ) (taken : List ℕ) (reported : Reported) → IsAt at taken reported l.initial.decoder → (now : Reported) × IsAt at (taken ++ take l.from l.piece) now l.decoder;
}

abbrev pub decreases-taking : goal.decreases-taking
decreases-taking g l = length l.piece - l.from

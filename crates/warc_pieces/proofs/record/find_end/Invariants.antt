use Rattle.std.proofs.Common.{◌≤◌, ◌<◌, ◌-◌, ◌*◌, ◌^◌, length, false}
use Rattle.warc_frame.specs.Seen.{IfHeld}
use Rattle.warc_pieces.specs.Pieces.{near}
use Rattle.warc_pieces.specs.Reads.{ReadsNear}
use Rattle.warc_pieces.proofs.record.find_end.Given as goal

-- the end is between the two offsets, whose distance has been halved with each read
abbrev pub invariant-halving : goal.invariant-halving
invariant-halving g l = record {
  between : IfHeld (g.S.Source.seen l.fn.source).holds (λ bytes. l.from ≤ length (near bytes) → length (near bytes) ≤ l.to →
      (l.low ≤ length (near bytes)) × (length (near bytes) ≤ l.high));
  span : (l.high - l.low) * 2 ^ l.step < 2 ^ 48;
  limit : l.high ≤ 2 ^ 48;
  low : l.from ≤ l.low;
  high : l.high ≤ l.to;
  reads : ReadsNear l.step false (g.S.Source.seen l.fn.source) (g.S.Source.seen l.source);
}

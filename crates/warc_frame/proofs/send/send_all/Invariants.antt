use Rattle.std.proofs.Common.{length, ◌-◌, ◌≡◌, ◌≤◌, take}
use Rattle.std.specs.Io.KnownBytes.{append_known}
use Rattle.warc_frame.proofs.send.send_all.Given as goal

abbrev pub invariant-writing : goal.invariant-writing
invariant-writing g l = record {
  within : l.sent ≤ length l.piece;
  reported : (g.W.Sink.seen l.out).reports ≡ append_known ((g.W.Sink.seen l.fn.out).reports) (take l.sent l.piece);
  sound : (g.W.Sink.seen l.out).faults ≡ (g.W.Sink.seen l.fn.out).faults;
}

abbrev pub decreases-writing : goal.decreases-writing
decreases-writing g l = length l.piece - l.sent

use Rattle.std.proofs.Common.{◌≡◌, ◌+◌, ◌-◌, ◌*◌, ◌≤◌, Ok, drop, length}
use Rattle.warc_frame.specs.Record.{max_archive}
use Rattle.warc_frame.specs.Seen.{IfHeld}
use Rattle.warc_pieces.specs.Pieces.{near}
use Rattle.warc_pieces.specs.Window.{ReadsBy, Shows, own_reads}
use Rattle.warc_pieces.proofs.RunLemmas.{GoesOver}
use Rattle.warc_pieces.proofs.run.read_run.Given as goal

-- the records that were read
abbrev pub invariant-reading : goal.invariant-reading
invariant-reading g l = record {
  limit : l.at + l.len ≤ max_archive;
  begin : l.window.begin ≤ l.at + l.len;
  few : l.count ≤ l.len;
  none : l.count ≡ 0 → l.len ≡ 0;
  reads : ReadsBy {X = Unit {0}} ((own_reads + 1) * l.count) (Ok tt) l.initial.window l.window (g.S.Source.seen l.initial.source) (g.S.Source.seen l.source);
  held : IfHeld (g.S.Source.seen l.initial.source).holds (λ bytes. Shows bytes l.initial.window → l.at ≤ length (near bytes)
      → Shows bytes l.window × GoesOver (drop l.at (near bytes)) l.count l.len);
}

abbrev pub decreases-reading : goal.decreases-reading
decreases-reading g l = max_archive - (l.at + l.len)

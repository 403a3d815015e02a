use Rattle.std.proofs.Common.{◌≤◌, ◌+◌, ◌-◌, ◌*◌, Ok, length}
use Rattle.warc_frame.specs.Record.{max_archive}
use Rattle.warc_frame.specs.Seen.{IfHeld}
use Rattle.warc_pieces.specs.Pieces.{near}
use Rattle.warc_pieces.specs.Window.{ReadsBy, Shows, reached}
use Rattle.warc_pieces.proofs.RecordLemmas.{ahead, slack}
use Rattle.warc_pieces.proofs.record.find_block_end.Given as goal

-- the window shows the source, and was read for each byte that it has gone on
abbrev pub invariant-reading : goal.invariant-reading
invariant-reading g l = record {
  begin : l.window.begin ≤ l.at;
  shows : IfHeld (g.S.Source.seen l.fn.source).holds (λ bytes. Shows bytes l.fn.window → l.at ≤ length (near bytes) → Shows bytes l.window);
  reads : ReadsBy {X = Unit {0}} (slack l.window.is_last) (Ok tt) l.fn.window l.window (g.S.Source.seen l.fn.source) (g.S.Source.seen l.source);
}

abbrev pub decreases-reading : goal.decreases-reading
decreases-reading g l = 2 * (max_archive - reached l.window) + ahead l.window.is_last

use Rattle.std.proofs.Common.{◌+◌, ◌-◌, ◌*◌, ◌≡◌, ◌≤◌, Ok, length, if◌then◌else◌}
use Rattle.warc_frame.specs.Record.{max_archive}
use Rattle.warc_frame.specs.Seen.{IfHeld}
use Rattle.warc_pieces.specs.Pieces.{near}
use Rattle.warc_pieces.specs.Search.{NoLine}
use Rattle.warc_pieces.specs.Window.{ReadsBy, Shows, reached}
use Rattle.warc_pieces.proofs.search.next_line.Given as goal

-- no version line begins before this offset
abbrev pub invariant-looking : goal.invariant-looking
invariant-looking g l = record {
  low : l.from ≤ l.at;
  limit : l.at ≤ max_archive;
  begin : l.window.begin ≤ l.at;
  far : l.reached ≡ reached l.window;
  most : l.reached ≤ max_archive;
  reads : ReadsBy {X = Unit {0}} (if l.window.is_last then 1 else 0) (Ok tt) l.initial.window l.window (g.S.Source.seen l.initial.source) (g.S.Source.seen l.source);
  held : IfHeld (g.S.Source.seen l.initial.source).holds (λ bytes. Shows bytes l.initial.window → l.from ≤ length (near bytes)
      → Shows bytes l.window × (l.at ≤ length (near bytes)) × NoLine (near bytes) l.from l.at);
}

abbrev pub decreases-looking : goal.decreases-looking
decreases-looking g l = 2 * (max_archive - l.reached) + (if l.window.is_last then 0 else 1)

use Rattle.std.proofs.Common.{◌-◌, ◌≤◌, Ok}
use Rattle.warc_frame.specs.Seen.{IfHeld}
use Rattle.warc_pieces.specs.Window.{ReadsBy, Shows, reached}
use Rattle.warc_pieces.proofs.window.Window.pass_over.Given as goal

-- the window shows the source, and was read for each byte that it has gone on
abbrev pub invariant-passing : goal.invariant-passing
invariant-passing g l = record {
  shows : IfHeld (g.S.Source.seen l.fn.source).holds (λ bytes. Shows bytes l.fn.self → Shows bytes l.self);
  begin : l.self.begin ≤ l.to;
  far : reached l.fn.self ≤ reached l.self;
  reads : ReadsBy {X = Unit {0}} 0 (Ok tt) l.fn.self l.self (g.S.Source.seen l.fn.source) (g.S.Source.seen l.source);
}

abbrev pub decreases-passing : goal.decreases-passing
decreases-passing g l = l.to - reached l.self

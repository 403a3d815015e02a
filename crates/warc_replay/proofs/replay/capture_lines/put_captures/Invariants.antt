use Rattle.std.proofs.Common.{Ok, take}
use Rattle.warc_frame.specs.Seen.{IfHeld}
use Rattle.warc_reading.specs.Archive.{IsArchiveOf}
use Rattle.warc_lookup.specs.Indexed.{AreOf}
use Rattle.warc_replay.specs.Capturing.{AreFound, AreKnownBlocks, PutsCaptures}
use Rattle.warc_replay.specs.KnownGaps.{AreKnownSeries}
use Rattle.warc_replay.proofs.replay.capture_lines.put_captures.Given as goal

-- the lines so far were put, and what was found of joined blocks and of gaps is right
abbrev pub invariant-listing : goal.invariant-listing
invariant-listing g l = record {
  puts : PutsCaptures (AreKnownBlocks l.known) l.rows l.lookup.index l.lookup.parts (take l.position-index l.positions) (g.S.Source.seen l.fn.source) (g.S.Source.seen l.source)
      (g.W.Sink.seen l.fn.out) (g.W.Sink.seen l.out) l.fn.buffer l.buffer (Ok tt);
  right : IfHeld ((g.S.Source.seen l.fn.source).holds) (λ bytes. (is : IsArchiveOf bytes l.rows) → AreOf is.are.records l.lookup.index l.lookup.parts
      → AreKnownBlocks l.known is.are.records → AreFound l.known l.remembered.found is.are.records);
  gaps_known : AreKnownSeries l.lookup.parts l.remembered.gaps;
}

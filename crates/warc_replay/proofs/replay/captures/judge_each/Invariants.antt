use Rattle.std.proofs.Common.{◌≡◌, map, take}
use Rattle.warc_frame.specs.Effects.{Preserves}
use Rattle.warc_frame.specs.Seen.{IfHeld}
use Rattle.warc_reading.specs.Archive.{IsArchiveOf}
use Rattle.warc_lookup.specs.Indexed.{AreOf}
use Rattle.warc_replay.specs.Capturing.{AreKnownBlocks, AreSoFar}
use Rattle.warc_replay.specs.KnownGaps.{AreKnownSeries}
use Rattle.warc_replay.specs.Replaying.{AsksInside}
use Rattle.warc_replay.proofs.replay.captures.judge_each.Given as goal

-- the outcomes so far, what was found of the blocks that are joined to each origin, and the gaps that are known
abbrev pub invariant-judging : goal.invariant-judging
invariant-judging g l = record {
  reported : IfHeld ((g.S.Source.seen l.fn.source).holds) (λ bytes. (is : IsArchiveOf bytes l.rows) → AreOf is.are.records l.lookup.index l.lookup.parts
      → AreKnownBlocks l.known is.are.records → AreSoFar is.are.records l.known l.remembered.found l.outcomes.items);
  chosen : map (λ o. o.chosen) l.outcomes.items ≡ take l.position-index l.positions;
  inside : AsksInside l.rows l.lookup.index l.lookup.parts (g.S.Source.seen l.fn.source) (g.S.Source.seen l.source);
  keeps : Preserves (g.S.Source.seen l.fn.source) (g.S.Source.seen l.source);
  sound : (g.S.Source.seen l.source).faults ≡ (g.S.Source.seen l.fn.source).faults;
  gaps_known : AreKnownSeries l.lookup.parts l.remembered.gaps;
}

use Rattle.std.proofs.Common.{◌≡◌, ◌≤◌, length}
use Rattle.warc_frame.specs.Effects.{Preserves}
use Rattle.warc_frame.specs.Seen.{IfHeld}
use Rattle.warc_reading.specs.Archive.{IsArchiveOf, contents}
use Rattle.warc_lookup.specs.Indexed.{AreOf}
use Rattle.warc_replay.specs.PayloadStates.{AreKnown}
use Rattle.warc_replay.specs.PayloadVerdicts.{AreJudgedPayloads}
use Rattle.warc_replay.specs.Replaying.{AsksInside}
use Rattle.warc.specs.KnownPayloads.{AreKnownFor}
use Rattle.warc.proofs.opened.payloads.judge_payloads_by.Given as goal

-- the verdicts so far, and the digests that are known
abbrev pub invariant-judging : goal.invariant-judging
invariant-judging g l = record {
  reported : IfHeld ((g.S.Source.seen l.fn.source).holds) (λ bytes. (is : IsArchiveOf bytes l.rows) → AreOf is.are.records l.lookup.index l.lookup.parts
      → AreKnownFor l.known l.blocks is.are.records → AreKnown (contents is.are.records) l.digested.known.items × AreJudgedPayloads (contents is.are.records) l.position l.payloads);
  within : l.position ≤ length l.rows;
  inside : AsksInside l.rows l.lookup.index l.lookup.parts (g.S.Source.seen l.fn.source) (g.S.Source.seen l.source);
  keeps : Preserves (g.S.Source.seen l.fn.source) (g.S.Source.seen l.source);
  sound : (g.S.Source.seen l.source).faults ≡ (g.S.Source.seen l.fn.source).faults;
}

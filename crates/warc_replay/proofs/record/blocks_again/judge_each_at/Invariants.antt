use Rattle.std.proofs.Common.{◌≡◌, length}
use Rattle.warc_frame.specs.Effects.{Preserves}
use Rattle.warc_frame.specs.Seen.{IfHeld}
use Rattle.warc_reading.specs.Archive.{IsArchiveOf, contents}
use Rattle.warc_replay.specs.BlocksAgain.{AreBlocksAt, AsksInArchive}
use Rattle.warc_replay.proofs.record.blocks_again.judge_each_at.Given as goal

-- the verdicts so far
abbrev pub invariant-judging : goal.invariant-judging
invariant-judging g l = record {
  reported : IfHeld ((g.S.Source.seen l.fn.source).holds) (λ bytes. (is : IsArchiveOf bytes l.rows)
      → AreBlocksAt (contents is.are.records) l.positions l.blocks × (l.position-index ≡ length l.blocks));
  inside : AsksInArchive l.rows (g.S.Source.seen l.fn.source) (g.S.Source.seen l.source);
  keeps : Preserves (g.S.Source.seen l.fn.source) (g.S.Source.seen l.source);
  sound : (g.S.Source.seen l.source).faults ≡ (g.S.Source.seen l.fn.source).faults;
}

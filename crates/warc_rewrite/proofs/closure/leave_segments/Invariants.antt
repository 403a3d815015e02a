use Rattle.std.proofs.Common.{◌≡◌, length, take}
use Rattle.warc_frame.specs.Effects.{ReadsOnly}
use Rattle.warc_frame.specs.Seen.{IfHeld}
use Rattle.warc_reading.specs.Archive.{IsArchiveOf}
use Rattle.warc_reading.specs.Rereading.{IsInHead, heads_len}
use Rattle.warc_rewrite.specs.Statuses.{AreFresh, AreLeftBySegments}
use Rattle.warc_lookup.specs.Indexed.{ArePartsOf}
use Rattle.warc_rewrite.proofs.closure.leave_segments.Given as goal

-- the records so far are judged
abbrev pub invariant-judging : goal.invariant-judging
invariant-judging g l = record {
  same : length l.statuses ≡ length l.fn.statuses;
  reported : IfHeld ((g.S.Source.seen l.fn.source).holds) (λ bytes. (is : IsArchiveOf bytes l.rows) → ArePartsOf is.are.records l.parts
      → AreFresh l.fn.statuses → AreLeftBySegments is.are.records l.position l.fn.statuses l.statuses);
  reads : ReadsOnly (IsInHead l.rows) (heads_len (take l.position l.rows)) (g.S.Source.seen l.fn.source) (g.S.Source.seen l.source);
  sound : (g.S.Source.seen l.source).faults ≡ (g.S.Source.seen l.fn.source).faults;
}

use Rattle.std.proofs.Common.{◌≤◌, Ok, length, take}
use Rattle.std.specs.List.{sum_by}
use Rattle.warc_frame.specs.Record.{max_head}
use Rattle.warc_rewrite.specs.Copied.{AreTextsOf, len_by, text_by}
use Rattle.warc_frame.specs.Effects.{Emits, ReadsOnly}
use Rattle.warc_reading.specs.Placing.{IsInAnyRow}
use Rattle.warc_rewrite.proofs.output.put_records.Given as goal

-- the texts of the records so far were added, and nothing has failed
abbrev pub invariant-writing : goal.invariant-writing
invariant-writing g l = record {
  room : max_head ≤ length l.scratch;
  emits : Emits {X = Unit {0}} (AreTextsOf (text_by l.replacement) (take l.position l.rows))
      (g.S.Source.seen l.fn.source)
      (g.S.Source.seen l.source)
      (g.W.Sink.seen l.fn.out) (g.W.Sink.seen l.out)
      l.fn.buffer l.buffer (Ok (tt {0}));
  reads : ReadsOnly (IsInAnyRow l.rows) (sum_by (len_by l.replacement) (take l.position l.rows))
      (g.S.Source.seen l.fn.source)
      (g.S.Source.seen l.source);
}

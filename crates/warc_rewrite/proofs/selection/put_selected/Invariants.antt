use Rattle.std.proofs.Common.{◌<◌, Ok, length, take}
use Rattle.warc_frame.specs.Effects.{Emits, ReadsOnly}
use Rattle.warc_rewrite.specs.Selected.{AreBytesOf}
use Rattle.warc_rewrite.specs.Selecting.{IsInAnyRecord, at_positions, records_len}
use Rattle.warc_rewrite.proofs.selection.put_selected.Given as goal

-- the bytes of the records so far were added, and nothing has failed
abbrev pub invariant-selecting : goal.invariant-selecting
invariant-selecting g l = record {
  room : 0 < length l.scratch;
  emits : Emits {X = Unit {0}} (AreBytesOf (at_positions l.rows (take l.position-index l.positions)))
      (g.S.Source.seen l.fn.source)
      (g.S.Source.seen l.source)
      (g.W.Sink.seen l.fn.out) (g.W.Sink.seen l.out)
      l.fn.buffer l.buffer (Ok (tt {0}));
  reads : ReadsOnly (IsInAnyRecord (at_positions l.rows l.positions)) (records_len (at_positions l.rows (take l.position-index l.positions)))
      (g.S.Source.seen l.fn.source)
      (g.S.Source.seen l.source);
}

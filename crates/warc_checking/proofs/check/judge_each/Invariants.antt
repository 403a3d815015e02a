use Rattle.std.proofs.Common.{◌≡◌, ◌≤◌, ℕ, List, Some, length, map, take}
use Rattle.std.specs.List.{sum_by}
use Rattle.warc_frame.specs.Effects.{ReadsOnly}
use Rattle.warc_frame.specs.Record.{max_head}
use Rattle.warc_reading.specs.Archive.{contents}
use Rattle.warc_reading.specs.Placing.{IsInAnyRow}
use Rattle.warc_reading.specs.Rereading.{AreCheckable, row_len}
use Rattle.warc_reading.specs.Row.{Placed}
use Rattle.warc_checking.specs.Judged.{own_findings}
use Rattle.warc_checking.proofs.check.judge_each.Given as goal

-- the findings of the records so far are added, and nothing has failed
abbrev pub invariant-judging : goal.invariant-judging
invariant-judging g l = record {
  room : max_head ≤ length l.head;
  found : (bytes : List ℕ) (records : List Placed) → (g.S.Source.seen l.fn.source).holds ≡ Some bytes → AreCheckable bytes records l.rows
      → l.judging ≡ map own_findings (contents (take l.position records));
  texts : ReadsOnly (IsInAnyRow l.rows) (sum_by row_len (take l.position l.rows))
      (g.S.Source.seen l.fn.source)
      (g.S.Source.seen l.source);
  sound : (g.S.Source.seen l.source).faults ≡ (g.S.Source.seen l.fn.source).faults;
}

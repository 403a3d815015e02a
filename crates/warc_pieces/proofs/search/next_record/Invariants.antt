use Rattle.std.proofs.Common.{◌-◌, ◌≤◌}
use Rattle.warc_frame.specs.Record.{max_archive}
use Rattle.warc_pieces.proofs.SearchLemmas.{Tries}
use Rattle.warc_pieces.proofs.search.next_record.Given as goal

-- no good record is whole from an offset before this one on
abbrev pub invariant-judging : goal.invariant-judging
invariant-judging g l = record {
  low : l.from ≤ l.at;
  limit : l.at ≤ max_archive;
  begin : l.window.begin ≤ l.at;
  tries : Tries l.from l.at l.initial.window l.window (g.S.Source.seen l.initial.source) (g.S.Source.seen l.source);
}

abbrev pub decreases-judging : goal.decreases-judging
decreases-judging g l = max_archive - l.at

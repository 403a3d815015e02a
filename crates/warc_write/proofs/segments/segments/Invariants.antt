use Rattle.std.proofs.Common.{◌≡◌, map}
use Rattle.std.specs.List.{range_with_len}
use Rattle.warc_write.specs.Splitting.{AllFramed, segment_of}
use Rattle.warc_write.proofs.segments.segments.Given as goal

-- the segments so far are made
abbrev pub invariant-loop-at : goal.invariant-loop-at
invariant-loop-at g l = record {
  made : l.all.items ≡ map (segment_of l.framed l.uuid l.size) (range_with_len 0 l.at);
  framed : AllFramed l.all.items;
}

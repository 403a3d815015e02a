use Rattle.std.proofs.Common.{◌≡◌, Bool, true, map}
use Rattle.std.specs.List.{list_all, range_with_len}
use Rattle.warc_frame.specs.Record.{Record}
use Rattle.warc_write.specs.Cutting.{HasParts}
use Rattle.warc_write.specs.Splitting.{has_room, segment_of}
use Rattle.warc_write.proofs.cuts.all_fit.Given as goal

-- the heads of the segments so far have room
abbrev pub invariant-loop-at : goal.invariant-loop-at
invariant-loop-at g l = (r : Record) (is_bad : Bool) → HasParts l.version l.fields l.len is_bad r
    → list_all has_room (map (segment_of r l.uuid l.size) (range_with_len 0 l.at)) ≡ true

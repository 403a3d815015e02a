use Rattle.std.proofs.Common.{◌≡◌, List, length, Some}
use Rattle.warc_index.specs.Captures.{Indexed}
use Rattle.warc_index.specs.Orders.{IsIndexOf}
use Rattle.warc_index.specs.Referents.{next_of}
use Rattle.warc_index.specs.Walks.{walk}
use Rattle.warc_rewrite.specs.Statuses.{LeavesWay}
use Rattle.warc_rewrite.proofs.remainder.leave_way.Given as goal

-- the places so far are left out
abbrev pub invariant-leaving : goal.invariant-leaving
invariant-leaving g l = record {
  same : length l.statuses ≡ length l.fn.statuses;
  way : (all : List Indexed) → IsIndexOf all l.index → length l.fn.statuses ≡ length all → record {
    leaves : LeavesWay (next_of all) l.position l._step l.fn.statuses l.statuses;
    here : walk (next_of all) l.position l._step ≡ Some l.at;
  };
}

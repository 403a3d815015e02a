use Rattle.std.proofs.Common.{◌≡◌, List, length}
use Rattle.warc_index.specs.Captures.{Indexed}
use Rattle.warc_index.specs.Orders.{IsIndexOf}
use Rattle.warc_index.specs.Referents.{next_of}
use Rattle.warc_rewrite.specs.declared.remainder.Status.{Status}
use Rattle.warc_rewrite.specs.Statuses.{AreAllSettled, AreSettled}
use Rattle.warc_rewrite.proofs.remainder.settle_all.Given as goal

-- the records so far are settled
abbrev pub invariant-settling : goal.invariant-settling
invariant-settling g l = record {
  same : length l.statuses ≡ length l.fn.statuses;
  settles : (all : List Indexed) (base : List Status) → IsIndexOf all l.index → length l.fn.statuses ≡ length all
      → AreSettled (next_of all) base l.fn.statuses → AreAllSettled (next_of all) base l.statuses l.position;
}

use Rattle.std.proofs.Common.{◌≡◌, ◌+◌, ◌<◌, List, length, Some}
use Rattle.std.specs.Prelude.{count_by}
use Rattle.warc_index.specs.Captures.{Indexed}
use Rattle.warc_index.specs.Orders.{IsIndexOf}
use Rattle.warc_index.specs.Referents.{next_of}
use Rattle.warc_index.specs.Walks.{walk}
use Rattle.warc_rewrite.specs.Statuses.{WalksOn, is_open}
use Rattle.warc_rewrite.proofs.remainder.settle.Given as goal

-- the places so far were open, and are kept
abbrev pub invariant-walking : goal.invariant-walking
invariant-walking g l = record {
  same : length l.statuses ≡ length l.fn.statuses;
  count : l.steps + count_by is_open l.statuses ≡ count_by is_open l.fn.statuses;
  way : (all : List Indexed) → IsIndexOf all l.index → length l.fn.statuses ≡ length all → l.position < length all → record {
    walks : WalksOn (next_of all) l.position l.steps l.fn.statuses l.statuses;
    here : walk (next_of all) l.position l.steps ≡ Some l.at;
    inside : l.at < length all;
  };
}

abbrev pub decreases-walking : goal.decreases-walking
decreases-walking g l = count_by is_open l.statuses

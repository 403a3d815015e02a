use Rattle.std.proofs.Common.{◌≡◌, ◌≤◌, ◌^◌, length}
use Rattle.warc_checking.specs.UsedIds.{IsTally, buckets_in}
use Rattle.warc_checking.proofs.used_ids.tally_rows.Given as goal

-- the ids of the rows so far are counted, and their buckets are kept
abbrev pub invariant-counting : goal.invariant-counting
invariant-counting g l = record {
  tally : IsTally l.position l.rows l.counts.items l.buckets.items;
  few : buckets_in l.counts.items ≤ 2 ^ 32;
  len : length l.buckets.items ≡ l.position;
}

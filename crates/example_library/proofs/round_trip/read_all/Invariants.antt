use Rattle.std.proofs.Common.{◌≡◌, take}
use Rattle.warc_reading.specs.Archive.{IsArchiveOf, contents}
use Rattle.example_library.proofs.round_trip.read_all.Given as goal

abbrev pub invariant-loop-position : goal.invariant-loop-position
invariant-loop-position l = record {
  read : (is : IsArchiveOf l.fn.archive.listing.source.bytes l.fn.archive.listing.rows) → l.records.items ≡ take l.position (contents is.are.records);
  bytes : l.archive.listing.source.bytes ≡ l.fn.archive.listing.source.bytes;
  rows : l.archive.listing.rows ≡ l.fn.archive.listing.rows;
}

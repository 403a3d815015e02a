use Rattle.std.proofs.Common.{map, take}
use Rattle.warc_lent.specs.Buffers.{HoldsFront}
use Rattle.warc_lent.specs.Rows.{row_numbers}
use Rattle.warc_page.proofs.front.put_rows.Given as goal

-- the rows so far
abbrev pub invariant-putting : goal.invariant-putting
invariant-putting g l = HoldsFront (map row_numbers (take l.position l.listing.rows)) l.rows

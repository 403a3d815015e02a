use Rattle.std.proofs.Common.{◌≡◌, ℕ, List, take}
use Rattle.warc_reading.specs.Archive.{IsArchiveOf}
use Rattle.warc_rewrite.specs.Selecting.{at_positions, records_len}
use Rattle.warc_rewrite.proofs.selection.selected_len.Given as goal

-- the length of those so far
abbrev pub invariant-counting : goal.invariant-counting
invariant-counting g l = (bytes : List ℕ) → IsArchiveOf bytes l.rows → l.total ≡ records_len (at_positions l.rows (take l.chosen-index l.positions))

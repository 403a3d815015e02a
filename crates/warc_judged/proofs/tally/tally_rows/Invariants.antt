use Rattle.warc_judged.specs.Tallies.{IsTalliedTo}
use Rattle.warc_judged.proofs.tally.tally_rows.Given as goal

-- the rows so far were counted
abbrev pub invariant-counting : goal.invariant-counting
invariant-counting g l = IsTalliedTo l.rows l.position l.tally

use Rattle.std.proofs.Common.{◌-◌}
use Rattle.warc_frame.specs.Record.{max_archive}
use Rattle.warc_lent.proofs.PieceLemmas.{HasPutPieces}
use Rattle.warc_lent.proofs.pieces.put_walk.Given as goal

-- the pieces so far
abbrev pub invariant-putting : goal.invariant-putting
invariant-putting g l =
    HasPutPieces (g.S.Source.seen l.fn.reader.source) (g.S.Source.seen l.reader.source) l.reader.at l.reader.failure l.count l.fn.out l.out

abbrev pub decreases-putting : goal.decreases-putting
decreases-putting g l = max_archive - l.reader.at

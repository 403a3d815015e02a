use Rattle.std.proofs.Common.{◌-◌}
use Rattle.warc_frame.specs.Record.{max_archive}
use Rattle.warc_commands.specs.Walking.{HasPut}
use Rattle.warc_commands.proofs.pieces.put_pieces.Given as goal

-- a line was added for each piece so far
abbrev pub invariant-putting : goal.invariant-putting
invariant-putting g l =
    HasPut (g.S.Source.seen l.fn.pieces.source) (g.S.Source.seen l.pieces.source) l.pieces.at l.pieces.failure l.tally (g.W.Sink.seen l.fn.out) (g.W.Sink.seen l.out) l.fn.buffer l.buffer

abbrev pub decreases-putting : goal.decreases-putting
decreases-putting g l = max_archive - l.pieces.at

use Rattle.std.proofs.Common.{◌-◌, ◌<◌, length}
use Rattle.warc_frame.specs.Record.{max_archive}
use Rattle.warc_commands.specs.Walking.{HasCopied}
use Rattle.warc_commands.proofs.salvage_all.copy_runs.Given as goal

-- the good records of each piece so far were added, and each damage was reported
abbrev pub invariant-copying : goal.invariant-copying
invariant-copying g l = record {
  room : 0 < length l.scratch;
  has : HasCopied (g.S.Source.seen l.fn.pieces.source) (g.S.Source.seen l.pieces.source) l.pieces.at l.pieces.failure l.tally (g.W.Sink.seen l.fn.out) (g.W.Sink.seen l.out) l.fn.buffer l.buffer
      (g.E.Sink.seen l.fn.err.sink) (g.E.Sink.seen l.err.sink);
}

abbrev pub decreases-copying : goal.decreases-copying
decreases-copying g l = max_archive - l.pieces.at

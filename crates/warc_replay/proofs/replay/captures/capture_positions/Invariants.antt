use Rattle.std.proofs.Common.{◌≡◌, take}
use Rattle.warc_replay.specs.Captures.{capture_positions}
use Rattle.warc_replay.proofs.replay.captures.capture_positions.Given as goal

-- the positions are those of the captures among the rows so far
abbrev pub invariant-listing : goal.invariant-listing
invariant-listing g l = l.positions.items ≡ capture_positions (take l.position l.rows)

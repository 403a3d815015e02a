use Rattle.std.proofs.Common.{◌≡◌, map, take}
use Rattle.warc_frame.specs.Send.{IsStaged}
use Rattle.warc_replay.specs.Captures.{captures_text}
use Rattle.warc_replay.specs.Outcomes.{outcome_seen}
use Rattle.warc_replay.proofs.replay.capture_line.list_outcomes.Given as goal

-- the lines of the outcomes so far are staged, and no write has failed
abbrev pub invariant-listing : goal.invariant-listing
invariant-listing g l = record {
  staged : IsStaged ((g.W.Sink.seen l.fn.out).reports) (captures_text l.rows (map outcome_seen (take l.outcome-index l.outcomes))) ((g.W.Sink.seen l.out).reports) l.buffer;
  sound : (g.W.Sink.seen l.out).faults ≡ (g.W.Sink.seen l.fn.out).faults;
}

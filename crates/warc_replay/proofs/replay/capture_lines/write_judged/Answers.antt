use Rattle.warc_replay.proofs.CaptureLineLemmas.{sends_given}
use Rattle.warc_replay.proofs.KnownLemmas.{known_as}
use Rattle.warc_replay.proofs.replay.capture_lines.write_judged.Goals as goal

pub returns : goal.returns
returns g c = sends_given (λ records same. known_as _ records same) c.write_captures.ensures

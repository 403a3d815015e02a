use Rattle.std.proofs.Common.{sym, subst}
use Rattle.warc_replay.specs.Capturing.{AreKnownBlocks}
use Rattle.warc_replay.proofs.CaptureLineLemmas.{sends_given}
use Rattle.warc_replay.proofs.KnownLemmas.{nothing_known}
use Rattle.warc_replay.proofs.replay.capture_lines.write_unjudged.Goals as goal

pub returns : goal.returns
returns g c = sends_given (λ records any. subst (λ l. AreKnownBlocks l records) (sym c.new-known.ensures) (nothing_known records)) c.write_captures.ensures

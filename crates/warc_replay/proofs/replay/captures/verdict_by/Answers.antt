use Rattle.warc_replay.proofs.KnownLemmas.{found_good, stored_reason}
use Rattle.warc_replay.proofs.replay.captures.verdict_by.Goals as goal

pub returns-in-Ok : goal.returns-in-Ok
returns-in-Ok g c = λ records origin at. found_good records origin _ at _ c.in-Ok.is

pub returns-in-Err : goal.returns-in-Err
returns-in-Err g c = λ records origin at. c.verdict_for.ensures records origin (stored_reason records origin _ _ c.in-Err.is at)

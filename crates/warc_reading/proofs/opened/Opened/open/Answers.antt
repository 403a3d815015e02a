use Rattle.warc_reading.proofs.GrowLemmas.{opens_made}
use Rattle.warc_reading.proofs.opened.Opened.open.Goals as goal

pub returns-in-Ok : goal.returns-in-Ok
returns-in-Ok g c = opens_made _ _ _ _ _ _ _ c.in-Ok.is c.new.ensures c.requires (λ bytes kept. kept) c.read_on-answer.ensures.grows

pub returns-in-Err : goal.returns-in-Err
returns-in-Err g c = opens_made _ _ _ _ (c.read_on-answer.result.1, c.read_on-answer.result.2) _ _ c.in-Err.is c.new.ensures c.requires (λ bytes kept. kept) c.read_on-answer.ensures.grows

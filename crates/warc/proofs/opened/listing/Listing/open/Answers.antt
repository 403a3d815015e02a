use Rattle.warc_reading.proofs.IndexedLemmas.{opens_with, refuses_with}
use Rattle.warc.proofs.opened.listing.Listing.open.Goals as goal

pub returns-in-Ok : goal.returns-in-Ok
returns-in-Ok g c = opens_with _ _ (λ bytes kept. kept.listed) c.in-Ok.ensures

pub returns-in-Err : goal.returns-in-Err
returns-in-Err g c = refuses_with _ c.in-Err.ensures

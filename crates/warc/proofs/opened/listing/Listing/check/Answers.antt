use Rattle.warc_reading.proofs.PlaceLemmas.{same_rows, same_source}
use Rattle.warc.proofs.opened.listing.Listing.check.Goals as goal

pub returns-clause-checks : goal.returns-clause-checks
returns-clause-checks g c = rw (← (same_rows c.self.view_is), ← (same_source c.self.view_is)) c.check_rows.ensures

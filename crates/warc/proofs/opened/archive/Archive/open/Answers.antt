use Rattle.warc_reading.proofs.IndexedLemmas.{opens_with, refuses_with}
use Rattle.warc_lookup.proofs.LookupLemmas.{are_of_same}
use Rattle.warc.proofs.opened.archive.Archive.open.Goals as goal

pub returns-in-Ok : goal.returns-in-Ok
returns-in-Ok g c = opens_with _ _ (λ bytes kept. record {
  listed = kept.listed;
  kept = are_of_same _ _ _ _ _ c.into_lookup-kept.ensures.index c.into_lookup-kept.ensures.parts kept.beside;
}) c.in-Ok.ensures

pub returns-in-Err : goal.returns-in-Err
returns-in-Err g c = refuses_with _ c.in-Err.ensures

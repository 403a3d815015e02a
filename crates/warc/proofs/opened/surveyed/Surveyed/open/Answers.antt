use Rattle.warc_reading.proofs.IndexedLemmas.{opens_with, refuses_with}
use Rattle.warc.proofs.opened.surveyed.Surveyed.open.Goals as goal

pub returns-in-Ok : goal.returns-in-Ok
returns-in-Ok g c = opens_with _ _
    (λ bytes kept. record {
      listed = kept.listed;
      kept = c.into_parts-kept.ensures kept.listed.are.records (record {
        verdicts_are = kept.beside.0.0;
        digests_are = kept.beside.0.1;
        segmented_are = kept.beside.1.1.0.0;
        claims_are = kept.beside.1.1.0.1;
        found_are = kept.beside.1.1.1.0;
        known_are = kept.beside.1.0;
        kept = kept.beside.1.1.1.1;
      });
    })
    c.in-Ok.ensures

pub returns-in-Err : goal.returns-in-Err
returns-in-Err g c = refuses_with _ c.in-Err.ensures

use Rattle.std.proofs.Common.{sym}
use Rattle.warc_reading.proofs.IndexedLemmas.{opens_with, refuses_with}
use Rattle.warc_lookup.proofs.LookupLemmas.{are_of_same}
use Rattle.warc.proofs.KnownPayloadLemmas.{known_right}
use Rattle.warc.proofs.opened.payload_fixity.PayloadFixity.open.Goals as goal

pub returns-in-Ok : goal.returns-in-Ok
returns-in-Ok g c = opens_with _ _
    (λ bytes kept. record {
      indexed = record {
        listed = kept.listed;
        kept = are_of_same _ _ _ _ _ c.into_lookup.ensures.index c.into_lookup.ensures.parts kept.beside.1;
      };
      right = known_right (sym c.into_known.ensures) kept.beside.0;
    })
    c.in-Ok.ensures

pub returns-in-Err : goal.returns-in-Err
returns-in-Err g c = refuses_with _ c.in-Err.ensures

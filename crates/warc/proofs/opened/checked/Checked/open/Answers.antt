use Rattle.std.proofs.Common.{◌∙◌}
use Rattle.warc_reading.proofs.IndexedLemmas.{opens_with, refuses_with}
use Rattle.warc.proofs.opened.checked.Checked.open.Goals as goal

pub returns-in-Ok : goal.returns-in-Ok
returns-in-Ok g c = opens_with _ _ (λ bytes kept. record { listed = kept.listed; found_is = c.into_findings-kept.ensures ∙ kept.beside }) c.in-Ok.ensures

pub returns-in-Err : goal.returns-in-Err
returns-in-Err g c = refuses_with _ c.in-Err.ensures

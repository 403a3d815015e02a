use Rattle.std.proofs.Common.{ap, ◌∙◌}
use Rattle.warc_reading.proofs.IndexedLemmas.{opens_with, refuses_with}
use Rattle.warc_judged.specs.Summary.{Flags}
use Rattle.warc.proofs.opened.summarized.Summarized.open.Goals as goal

pub returns-in-Ok : goal.returns-in-Ok
returns-in-Ok g c =
    let same = c.into_flags-kept.ensures in
    opens_with _ _
    (λ bytes kept. record {
      listed = kept.listed;
      segmented_are = ap (λ (f : Flags). f.segmented) same ∙ kept.beside.0;
      verdicts_are = ap (λ (f : Flags). f.verdicts) same ∙ kept.beside.1;
    })
    c.in-Ok.ensures

pub returns-in-Err : goal.returns-in-Err
returns-in-Err g c = refuses_with _ c.in-Err.ensures

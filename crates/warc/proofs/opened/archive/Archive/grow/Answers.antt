use Rattle.std.proofs.Common.{ap, ap₂, ◌∙◌}
use Rattle.warc_reading.proofs.GrowLemmas.{grows_made, kept_by_rows, on_err_by}
use Rattle.warc_lookup.proofs.LookupLemmas.{are_of_same}
use Rattle.warc.proofs.opened.archive.Archive.grow.Goals as goal

pub returns-clause-grows : goal.returns-clause-grows
returns-clause-grows g c =
    grows_made _ _ _ _ _
    (λ bytes is.
    kept_by_rows _ bytes _ _ _ (ap (λ v. v.listing.rows) c.self.view_is) is.listed
    (are_of_same _ _ _ _ _ (ap (λ v. v.index) c.self.view_is) (ap (λ v. v.parts) c.self.view_is) is.kept))
    (λ bytes kept. record { listed = kept.listed; kept = kept.beside }) c.grow.ensures.grows

pub returns-clause-refused : goal.returns-clause-refused
returns-clause-refused g c =
    on_err_by c.grow.result (λ same. ap₂ (λ source rows. record { source = source; rows = rows }) same.0 same.1 ∙ ap (λ v. v.listing) c.self.view_is) c.grow.ensures.refused

pub returns-clause-stays : goal.returns-clause-stays
returns-clause-stays g c = λ bytes is.
    on_err_by c.grow.result (λ kept. record { listed = kept.listed; kept = kept.beside })
    (c.grow.ensures.stays bytes
    (kept_by_rows _ bytes _ _ _ (ap (λ v. v.listing.rows) c.self.view_is) is.listed
    (are_of_same _ _ _ _ _ (ap (λ v. v.index) c.self.view_is) (ap (λ v. v.parts) c.self.view_is) is.kept)))

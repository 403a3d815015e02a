use Rattle.std.proofs.Common.{ap, ap₂, ◌∙◌}
use Rattle.warc_reading.proofs.GrowLemmas.{grows_made, kept_by_rows, on_err_by}
use Rattle.warc.proofs.opened.listing.Listing.grow.Goals as goal

pub returns-clause-grows : goal.returns-clause-grows
returns-clause-grows g c =
    grows_made _ _ _ _ _ (λ bytes is. kept_by_rows _ bytes _ _ _ (ap (λ v. v.rows) c.self.view_is) is tt) (λ bytes kept. kept.listed) c.grow.ensures.grows

pub returns-clause-refused : goal.returns-clause-refused
returns-clause-refused g c =
    on_err_by c.grow.result (λ same. ap₂ (λ source rows. record { source = source; rows = rows }) same.0 same.1 ∙ c.self.view_is) c.grow.ensures.refused

use Rattle.std.proofs.Common.{◌∙◌, ap}
use Rattle.warc_index.specs.Referents.{by_key}
use Rattle.warc_index.proofs.index.RecordIndex+Order+A+A.by_key.Goals as goal

pub returns : goal.returns
returns g c all kept =
    c.capture_with.ensures all (ap (λ v. v.ids) c.self.view_is ∙ kept.ids) ∙ ap (by_key all) c.bytes.ensures

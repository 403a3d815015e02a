use Rattle.std.proofs.Common.{ap, ◌∙◌}
use Rattle.std.specs.List.{sum_by}
use Rattle.warc_reading.specs.Row.{texts_len}
use Rattle.warc_reading.proofs.RowLemmas.{flat_sum, rows_unpacked}
use Rattle.warc_reading.proofs.rows.Rows.kept.Goals as goal

pub returns : goal.returns
returns g c =
    c.len.ensures ∙ (c.self.inside.texts.ok.0 ∙ (flat_sum _ _ c.self.invariant.flat
    ∙ ap (sum_by texts_len) (rows_unpacked c.self.inside.texts.items c.self.inside.entries.items ∙ c.self.view_is)))

use Rattle.std.proofs.Common.{refl, ap, ◌∙◌}
use Rattle.warc_reading.specs.Row.{Row}
use Rattle.warc_write.specs.Conversion.{converted_fields}
use Rattle.warc_rewrite.proofs.WholeLemmas.{canonical_copy, converted_copy}
use Rattle.warc_rewrite.proofs.forms.copy_as.Goals as goal

pub returns-in-Canonical-clause-copied : goal.returns-in-Canonical-clause-copied
returns-in-Canonical-clause-copied g c = λ p head same.
    canonical_copy c.args.form p c.args.row.now _ c.in-Canonical.is same head.version head.fields
    (ap (λ (r : Row). r.block_start) c.row.view_is) (ap (λ (r : Row). r.block_len) c.row.view_is)

pub returns-in_ok-convert_fields-in-Converted-clause-copied : goal.returns-in_ok-convert_fields-in-Converted-clause-copied
returns-in_ok-convert_fields-in-Converted-clause-copied g c = λ p head same.
    converted_copy c.args.form p c.args.row.now _ c.in-Converted.is same refl (c.in_ok-convert_fields-in-Converted.ensures ∙ ap converted_fields head.fields)
    (ap (λ (r : Row). r.block_start) c.row.view_is) (ap (λ (r : Row). r.block_len) c.row.view_is)

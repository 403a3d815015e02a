use Rattle.std.proofs.Common.{ap, subst, sym, ◌∙◌}
use Rattle.warc_portions.proofs.PortionLemmas.{GivesText, gives_converted, gives_copied}
use Rattle.warc_reading.specs.Row.{Row}
use Rattle.warc_rewrite.specs.Forms.{text_as}
use Rattle.warc_rewrite.specs.declared.forms.Form.{Form}
use Rattle.warc_write.specs.Conversion.{converted_fields}
use Rattle.warc_portions.proofs.portion.portion_as.Goals as goal

pub returns-in-Canonical-clause-written : goal.returns-in-Canonical-clause-written
returns-in-Canonical-clause-written g c = λ p at.
    let bytes = c.args.bytes.now in
    let head = c.in-Ok.ensures.head p at in
    let start = ap (λ (r : Row). r.block_start) c.row.view_is in
    let len = ap (λ (r : Row). r.block_len) c.row.view_is in
    let gives = c.portion_of.ensures in
    let P : Form → Type 0 = λ f. GivesText c.portion_of.result bytes (text_as f p.content) in
    subst P (sym c.in-Canonical.is)
    (gives_copied c.portion_of.result _ _ _ _ (gives.head, gives.start, gives.len, gives.memory) bytes c.args.row.now p at head.version head.fields start len)

pub returns-in-Ok-convert_fields-clause-written : goal.returns-in-Ok-convert_fields-clause-written
returns-in-Ok-convert_fields-clause-written g c = λ p at.
    let bytes = c.args.bytes.now in
    let head = c.in-Ok.ensures.head p at in
    let start = ap (λ (r : Row). r.block_start) c.row.view_is in
    let len = ap (λ (r : Row). r.block_len) c.row.view_is in
    let gives = c.portion_of-in-Ok-convert_fields.ensures in
    let fields = c.in-Ok-convert_fields.ensures ∙ ap converted_fields head.fields in
    let P : Form → Type 0 = λ f. GivesText c.portion_of-in-Ok-convert_fields.result bytes (text_as f p.content) in
    subst P (sym c.in-Converted.is)
    (gives_converted c.portion_of-in-Ok-convert_fields.result _ _ _ (gives.head, gives.start, gives.len, gives.memory) bytes c.args.row.now p at fields start len)

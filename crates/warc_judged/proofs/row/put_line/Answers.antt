use Rattle.std.proofs.Common.{decimal, ap, ◌∙◌}
use Rattle.warc_judged.specs.Listing.{shown}
use Rattle.warc_reading.specs.Row.{Row}
use Rattle.warc_checking.proofs.CheckLemmas.{puts_same}
use Rattle.warc_judged.proofs.LineLemmas.{line_from}
use Rattle.warc_judged.proofs.row.put_line.Goals as goal

pub returns : goal.returns
returns g c =
    let inside = c.row.view_is in
    let line = line_from c.args.position c.args.row.now c.as_bytes.result.now c.as_bytes-2.result.now c.as_bytes-3.result.now
    c.row.inside.kind.now c.row.inside.date.now c.row.inside.id.now c.shown_as.result.now
    (c.as_bytes.ensures.value ∙ c.format.ensures.text)
    (c.as_bytes-2.ensures.value ∙ c.format-2.ensures.text ∙ ap (λ (r : Row). decimal r.offset) inside)
    (c.as_bytes-3.ensures.value ∙ c.format-3.ensures.text ∙ ap (λ (r : Row). decimal r.block_len) inside)
    (ap (λ (r : Row). r.kind) inside)
    (ap (λ (r : Row). r.date) inside)
    (ap (λ (r : Row). r.id) inside)
    (c.shown_as.ensures ∙ ap (λ (r : Row). shown r.target) inside) in
    puts_same line c.put_columns.ensures

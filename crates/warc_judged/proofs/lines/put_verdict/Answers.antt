use Rattle.std.proofs.Common.{ap, ◌∙◌}
use Rattle.warc_record.specs.Ids.{bare_text}
use Rattle.warc_reading.specs.Row.{Row}
use Rattle.warc_checking.proofs.CheckLemmas.{puts_same}
use Rattle.warc_judged.proofs.FixityLemmas.{verdict_from}
use Rattle.warc_judged.proofs.lines.put_verdict.Goals as goal

pub returns : goal.returns
returns g c =
    let inside = c.row.view_is in
    let line = verdict_from c.args.position c.args.verdict c.args.row.now c.args.digest.now c.as_bytes.result.now c.verdict_text.result.now c.bare.result.now c.shown_as.result.now
    (c.as_bytes.ensures.value ∙ c.format.ensures.text)
    c.verdict_text.ensures
    (c.bare.ensures ∙ ap (λ (r : Row). bare_text r.id) inside)
    c.shown_as.ensures in
    puts_same line c.put_columns.ensures

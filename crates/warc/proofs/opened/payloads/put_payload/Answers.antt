use Rattle.std.proofs.Common.{ap, ◌∙◌}
use Rattle.warc_record.specs.Ids.{bare_text}
use Rattle.warc_reading.specs.Row.{Row}
use Rattle.warc_judged.specs.Fixity.{verdict_text}
use Rattle.warc_checking.proofs.CheckLemmas.{puts_same}
use Rattle.warc.proofs.PayloadTextLemmas.{payload_from}
use Rattle.warc.proofs.opened.payloads.put_payload.Goals as goal

pub returns : goal.returns
returns g c =
    let inside = c.row.view_is in
    let line = payload_from c.args.position c.args.verdict c.args.row.now c.args.digest.now c.as_bytes.result.now c.verdict_text.result.now c.bare.result.now c.reason_of.result.now c.shown_as.result.now
    (c.as_bytes.ensures.value ∙ c.format.ensures.text)
    (c.verdict_text.ensures ∙ ap verdict_text c.plain_verdict.ensures)
    (c.bare.ensures ∙ ap (λ (r : Row). bare_text r.id) inside)
    c.reason_of.ensures
    c.shown_as.ensures in
    puts_same line c.put_columns.ensures

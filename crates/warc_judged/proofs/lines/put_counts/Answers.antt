use Rattle.std.proofs.Common.{◌∙◌}
use Rattle.warc_checking.proofs.CheckLemmas.{puts_same}
use Rattle.warc_judged.proofs.FixityLemmas.{counts_from}
use Rattle.warc_judged.proofs.lines.put_counts.Goals as goal

pub returns : goal.returns
returns g c =
    let line = counts_from c.args.counts c.records_text.result.now c.as_bytes.result.now c.verdict_text.result.now c.as_bytes-2.result.now c.verdict_text-2.result.now c.as_bytes-3.result.now c.verdict_text-3.result.now c.as_bytes-4.result.now
    c.records_text.ensures
    (c.as_bytes.ensures.value ∙ c.format.ensures.text)
    c.verdict_text.ensures
    (c.as_bytes-2.ensures.value ∙ c.format-2.ensures.text)
    c.verdict_text-2.ensures
    (c.as_bytes-3.ensures.value ∙ c.format-3.ensures.text)
    c.verdict_text-3.ensures
    (c.as_bytes-4.ensures.value ∙ c.format-4.ensures.text) in
    puts_same line c.put_columns.ensures

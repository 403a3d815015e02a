use Rattle.std.proofs.Common.{◌∙◌}
use Rattle.warc_checking.proofs.CheckLemmas.{finding_line}
use Rattle.warc_checking.proofs.CheckLemmas.{puts_same}
use Rattle.warc_checking.proofs.lines.put_parts.Goals as goal

pub returns : goal.returns
returns g c =
    let line = finding_line c.args.position c.args.number c.as_bytes.result.now c.as_bytes-2.result.now c.args.space.now c.args.field.now
    (c.as_bytes.ensures.value ∙ c.format.ensures.text) (c.as_bytes-2.ensures.value ∙ c.format-2.ensures.text) in
    puts_same line c.put_all.ensures

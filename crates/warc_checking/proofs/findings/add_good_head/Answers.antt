use Rattle.std.proofs.Common.{[], ◌∷◌, ◌++◌, false, ap, ◌∙◌}
use Rattle.warc_record.specs.Readings.{digest_wanted}
use Rattle.warc_checking.specs.OwnFindings.{shown_by}
use Rattle.warc_checking.proofs.findings.add_good_head.Goals as goal

pub returns-in-Ok-clause-is : goal.returns-in-Ok-clause-is
returns-in-Ok-clause-is g c = λ r reads good.
    let same = c.in_ok-head.ensures.is r reads good in (
      c.wanted.ensures ∙ ap digest_wanted same,
      c.in-Ok.ensures.ok
          ∙ ap (λ l. c.args.findings.now ++ shown_by l c.args.block_len false ∷ []) (c.fields.ensures.fields ∙ same),
    )

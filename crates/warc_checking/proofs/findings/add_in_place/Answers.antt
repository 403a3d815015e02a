use Rattle.std.proofs.Common.{false, length, sym, ap, ◌∙◌}
use Rattle.warc_record.specs.Findings.{findings_of}
use Rattle.warc_record.specs.Readings.{digest_wanted}
use Rattle.warc_value.specs.Digests.{is_bad, verdict_of}
use Rattle.warc_checking.specs.OwnFindings.{shown_by}
use Rattle.warc_checking.proofs.JudgingLemmas.{shown_one, shown_then}
use Rattle.warc_checking.proofs.findings.add_in_place.Goals as goal

pub returns-in-Ok-clause-ok : goal.returns-in-Ok-clause-ok
returns-in-Ok-clause-ok g c = λ p start next.
    let one = c.in_ok-add_plain_head.ensures.ok p start next in
    let fields = p.content.fields in
    let block = c.args.found.now.block.now in
    let bad = ap is_bad (c.of.ensures block) ∙ ap (λ w. is_bad (verdict_of w block)) (c.wanted.ensures ∙ sym next.says.wanted)
    ∙ ap (λ l. is_bad (verdict_of (digest_wanted fields) l)) next.block_is in
    shown_one _ _ _ _ (shown_by fields (length p.content.block) false) _ _ one c.in-Ok.ensures.ok c.requires.last
    (shown_then fields (length p.content.block) _ ∙ ap (λ b. findings_of fields (length p.content.block) b false) bad)

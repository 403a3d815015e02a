use Rattle.std.proofs.Common.{sym, ◌∙◌}
use Rattle.warc_quick.specs.PlainFindings.{all_plain}
use Rattle.warc_quick.proofs.JudgedLemmas.{are_findings}
use Rattle.warc_quick.proofs.record_findings.findings_of.Goals as goal

pub returns-in-Ok : goal.returns-in-Ok
returns-in-Ok c = λ fields are utf8.
    let kind = c.kind_in-kind.ensures fields are in
    are_findings fields c.args.block_len c.kind_in-kind.result (all_plain c.add_findings.new.found) (all_plain c.none-found.result) kind
    (sym c.is_known.ensures ∙ c.if-not-is_known.false) (sym (c.has_bad_segment.ensures fields are kind) ∙ c.if-has_bad_segment.false)
    (utf8 c.if-not-is_ascii.ensures.cases) c.none-found.ensures (c.in-Ok.ensures fields are kind)

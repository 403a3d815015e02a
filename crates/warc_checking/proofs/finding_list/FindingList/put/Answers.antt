use Rattle.std.proofs.Common.{ap, ◌∙◌}
use Rattle.warc_checking.specs.Lines.{record_lines}
use Rattle.warc_checking.specs.OwnFindings.{all_found, findings_of_part, with_both}
use Rattle.warc_checking.proofs.CheckLemmas.{puts_same}
use Rattle.warc_checking.proofs.finding_list.FindingList.put.Goals as goal

pub returns : goal.returns
returns g c =
    let same =
    ap (λ names. all_found names c.as_slice-2.result.now) c.as_slice.ensures.value
    ∙ ap (all_found c.self.inside.names.items) c.as_slice-2.ensures.value ∙ c.self.view_is in
    puts_same (ap (λ f. record_lines c.args.position (with_both (findings_of_part f c.args.part) c.args.facts.bad_digest c.args.facts.used_id)) same) c.put_part.ensures

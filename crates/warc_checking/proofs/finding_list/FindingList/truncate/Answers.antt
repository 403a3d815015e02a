use Rattle.std.proofs.Common.{ap, sym, take, ◌∙◌}
use Rattle.std.proofs.lemmas.List.{take-map}
use Rattle.warc_checking.specs.OwnFindings.{all_found, finding_in}
use Rattle.warc_checking.proofs.finding_list.FindingList.truncate.Goals as goal

pub returns : goal.returns
returns g c =
    ap (all_found c.self.inside.names.items) c.truncate.ensures.items
    ∙ sym (take-map (finding_in c.self.inside.names.items) c.args.count c.self.inside.findings.items)
    ∙ ap (take c.args.count) c.self.view_is

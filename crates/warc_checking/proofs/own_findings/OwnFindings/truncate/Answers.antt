use Rattle.std.proofs.Common.{ap, take, ◌∙◌}
use Rattle.warc_checking.specs.OwnFindings.{each_with}
use Rattle.warc_checking.proofs.OwnFindingLemmas.{each_first}
use Rattle.warc_checking.proofs.own_findings.OwnFindings.truncate.Goals as goal

pub returns : goal.returns
returns g c =
    ap (λ l. each_with l c.truncate-2.new.self.items) c.truncate.ensures
    ∙ ap (each_with (take c.args.count c.self.inside.others)) c.truncate-2.ensures.items
    ∙ each_first c.args.count c.self.inside.others c.self.inside.states.items ∙ ap (take c.args.count) c.self.view_is

use Rattle.std.proofs.Common.{rules, ◌≡◌, length, ap, sym, ◌∙◌}
use Rattle.warc_checking.proofs.OwnFindingLemmas.{each_len}
use Rattle.warc_checking.proofs.own_findings.OwnFindings.len.Goals as goal

pub returns : goal.returns
returns g c =
    let size : c.len.result ≡ length c.self.inside.states.items = search rules in
    size ∙ sym (each_len c.self.inside.others _ c.self.invariant.0) ∙ ap length c.self.view_is

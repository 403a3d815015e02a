use Rattle.std.proofs.Common.{rules, ◌≡◌, ap, length, sym, arith, ◌∙◌}
use Rattle.std.proofs.lemmas.List.{places, with_items_is}
use Rattle.warc_checking.specs.OwnFindings.{each_with, mark_at}
use Rattle.warc_checking.proofs.OwnFindingLemmas.{each_len}
use Rattle.warc_checking.proofs.own_findings.OwnFindings.mark.Goals as goal

pub mark_at-requires : goal.mark_at-requires
mark_at-requires g c =
    let size : length c.args.self.now ≡ length c.deref_mut.result.now =
    ap length (sym c.self.view_is) ∙ each_len c.self.inside.others _ c.self.invariant.0 ∙ ap length (sym c.deref_mut.ensures.value) in
    omega (arith, c.requires, size)

pub returns : goal.returns
returns g c =
    let others = c.self.inside.others in
    let value = c.deref_mut.ensures.value in
    let same : length others ≡ length c.deref_mut.result.now = c.self.invariant.0 ∙ ap length (sym value) in
    ap (each_with others) (with_items_is c.self.inside.states c.mark_at.new.states (search (rules, places)))
    ∙ c.mark_at.ensures others same ∙ ap (λ l. mark_at (each_with others l) c.args.position) value
    ∙ ap (λ l. mark_at l c.args.position) c.self.view_is

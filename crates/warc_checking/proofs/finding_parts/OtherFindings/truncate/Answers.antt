use Rattle.std.proofs.Common.{ℕ, List, ap, length, subst, sym, take, ◌∙◌}
use Rattle.warc_checking.specs.OwnFindings.{AreEnds, found_by_part}
use Rattle.warc_checking.proofs.OwnFindingLemmas.{ends_first, found_first}
use Rattle.warc_checking.proofs.finding_parts.OtherFindings.truncate.Goals as goal

pub invariant_of-self : goal.invariant_of-self
invariant_of-self g c =
    let P : List ℕ → Type 0 = λ l. AreEnds (length c.self.inside.findings) l in
    subst P (sym c.truncate.ensures.items) (ends_first c.args.count _ 0 c.self.inside.ends.items c.self.invariant)

pub returns : goal.returns
returns g c =
    ap (found_by_part c.self.inside.findings) c.truncate.ensures.items
    ∙ found_first c.self.inside.findings c.args.count 0 c.self.inside.ends.items ∙ ap (take c.args.count) c.self.view_is

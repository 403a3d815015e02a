use Rattle.std.proofs.Common.{◌≡◌, ◌∙◌, Bool, true, false, not, ap, sym, refl}
use Rattle.warc_index.specs.Links.{link_at, ends_as}
use Rattle.warc_index.proofs.KeptLemmas.{placed_of}
use Rattle.warc_index.proofs.ChainLemmas.{revisit_is}
use Rattle.warc_index.proofs.index.RecordIndex+Order+A+A.ends.Goals as goal

twice : (b : Bool) → b ≡ not (not b)
twice true = refl
twice false = refl

pub returns : goal.returns
returns g c all kept =
    let placed = placed_of all _ _ _ _ c.args.self.now c.self.view_is kept in
    c.ends_chain.ensures ∙ (ap (λ ls. ends_as (link_at ls c.args.position).role) placed.links
    ∙ (twice _ ∙ ap not (sym (revisit_is all c.args.position))))

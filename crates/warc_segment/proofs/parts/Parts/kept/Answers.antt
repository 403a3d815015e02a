use Rattle.std.proofs.Common.{◌∙◌, ap, length}
use Rattle.std.specs.Prelude.{sum_by}
use Rattle.warc_segment.specs.Kept.{Kept}
use Rattle.warc_segment.proofs.KeepLemmas.{bytes_of}
use Rattle.warc_segment.proofs.parts.Parts.kept.Goals as goal

pub returns : goal.returns
returns g c =
    c.kept.ensures ∙ (bytes_of c.self.inside.order c.self.inside.facts.items c.self.invariant.same
    ∙ ap (λ (k : Kept). sum_by (λ m. length m.origin) k.members) c.self.view_is)

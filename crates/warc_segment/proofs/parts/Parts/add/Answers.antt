use Rattle.std.proofs.Common.{ℕ, ◌∙◌, ap}
use Rattle.warc_segment.specs.Held.{held_in}
use Rattle.warc_segment.proofs.KeepLemmas.{kept_more}
use Rattle.warc_segment.proofs.parts.Parts.add.Goals as goal

pub returns-clause-ok : goal.returns-clause-ok
returns-clause-ok g c = λ all was.
    ap (λ (n : ℕ). held_in n c.put.new.order c.put.new.facts.items) c.in_ok-count.ensures.ok
    ∙ kept_more c.self.inside.count c.self.inside.order c.put.new.order c.self.inside.facts.items c.put.new.facts.items
    all _ (c.self.view_is ∙ was) c.in_ok-put.ensures.ok

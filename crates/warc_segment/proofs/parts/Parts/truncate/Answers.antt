use Rattle.std.proofs.Common.{◌∙◌}
use Rattle.warc_segment.proofs.KeepLemmas.{held_front, kept_front}
use Rattle.warc_segment.proofs.parts.Parts.truncate.Goals as goal

pub invariant_of-self : goal.invariant_of-self
invariant_of-self g c =
    held_front c.args.count c.self.inside.count c.self.inside.order c.truncate.new.self c.self.inside.facts.items
    c.truncate-then-count-self.new.self.items c.len-len.result c.self.invariant c.truncate.ensures c.len-len.ensures
    c.truncate-then-count-self.ensures.items

pub returns-then-count-self : goal.returns-then-count-self
returns-then-count-self g c = λ all was.
    kept_front c.args.count c.self.inside.count c.self.inside.order c.truncate.new.self c.self.inside.facts.items
    c.truncate-then-count-self.new.self.items c.len-len.result all c.self.invariant c.if-count-self.true c.truncate.ensures
    c.len-len.ensures c.truncate-then-count-self.ensures.items (c.self.view_is ∙ was)

use Rattle.std.proofs.Common.{◌∙◌, sym}
use Rattle.warc_segment.proofs.MemberLemmas.{from_first, none_from}
use Rattle.warc_segment.proofs.parts.Parts.segment_of.Goals as goal

pub returns-in-Some : goal.returns-in-Some
returns-in-Some g c all was =
    from_first c.self.inside.count c.in-Some.found.index c.args.typed.now.id c.bytes.result.now c.self.inside.order
    c.self.inside.facts.items all c.position.result c.self.invariant (c.self.view_is ∙ was) (sym c.bytes.ensures)
    c.in-Some.ensures.within c.in-Some.ensures.some c.position.ensures

pub returns-in-None : goal.returns-in-None
returns-in-None g c all was =
    none_from c.self.inside.count c.args.typed.now.id c.bytes.result.now c.self.inside.order
    c.self.inside.facts.items all c.self.invariant (c.self.view_is ∙ was) (sym c.bytes.ensures) c.in-None.ensures.none

use Rattle.std.proofs.Common.{◌∙◌, ap, ◌∷◌, ◌++◌, []}
use Rattle.warc_order.specs.Entries.{Entry}
use Rattle.warc_order.proofs.OrderLemmas.{waiting_more}
use Rattle.warc_order.proofs.Unordered.add.Goals as goal

pub invariant_of-self-2 : goal.invariant_of-self-2
invariant_of-self-2 g c =
    let e : Entry = record { text = c.args.text.now; mark = c.args.mark; position = c.in_ok-position.position } in
    waiting_more c.self.inside.entries c.add.new.self c.self.inside.waiting.list _ e
    c.in_ok-index.index c.self.invariant
    c.in_ok-add.ensures.ok
    (c.in_ok-index.ensures.same ∙ c.len.ensures)
    (rw (c.self.view_is, c.in_ok-position.ensures.same) c.requires)
    (c.push_reserved.ensures ∙ (ap (λ us. us ++ c.slot_of.result ∷ []) c.reserve.ensures.list
    ∙ ap (λ s. c.self.inside.waiting.list ++ s ∷ []) c.slot_of.ensures))

use Rattle.std.proofs.Common.{length, ap, ◌∙◌, ◌≡◌, ◌++◌, ◌∷◌, [], arith, sym}
use Rattle.std.proofs.lemmas.Bool.Decides.{nat_tests}
use Rattle.warc_order.specs.Layout.{own_index, no_number}
use Rattle.warc_order.proofs.EntryLemmas.{held, IsFlat-push, IsFlat-seen, length_positions, seen}
use Rattle.warc_order.proofs.entries.Entries.add.Goals as goal

pub invariant_of-self-2 : goal.invariant_of-self-2
invariant_of-self-2 g c = IsFlat-seen _ _ (IsFlat-push _ _ c.args.self.now c.args.text.now c.args.mark c.args.position _
    (held _ _ c.self.invariant c.self.view_is)
    (c.push_reserved.ensures.items ∙ ap (λ us. us ++ c.len-2.result ∷ []) c.reserve.ensures.items)
    c.in_ok-extend_from_slice.ensures.items
    (c.len-2.ensures ∙ c.extend_from_slice.new.self.ok.0)
    (c.push_reserved-2.ensures no_number (λ h. grind (arith, nat_tests, h))
    ∙ ap (λ us. us ++ c.args.mark.major ∷ []) (c.reserve-2.ensures.same no_number))
    (c.push_reserved-3.ensures no_number (λ h. grind (arith, nat_tests, h))
    ∙ ap (λ us. us ++ c.args.mark.minor ∷ []) (c.reserve-3.ensures.same no_number))
    (c.push_reserved-4.ensures own_index (λ h.
    let at : c.args.position ≡ c.len.result = grind (arith, nat_tests, h) in at ∙ (c.len.ensures
    ∙ (c.self.inside.ends.ok.0 ∙ (length_positions _ _ c.self.invariant
    ∙ sym (ap length (c.reserve-4.ensures.same own_index))))))
    ∙ ap (λ us. us ++ c.args.position ∷ []) (c.reserve-4.ensures.same own_index)))

pub returns-clause-ok : goal.returns-clause-ok
returns-clause-ok g c = seen _ _ (IsFlat-push _ _ c.args.self.now c.args.text.now c.args.mark c.args.position _
    (held _ _ c.self.invariant c.self.view_is)
    (c.push_reserved.ensures.items ∙ ap (λ us. us ++ c.len-2.result ∷ []) c.reserve.ensures.items)
    c.in_ok-extend_from_slice.ensures.items
    (c.len-2.ensures ∙ c.extend_from_slice.new.self.ok.0)
    (c.push_reserved-2.ensures no_number (λ h. grind (arith, nat_tests, h))
    ∙ ap (λ us. us ++ c.args.mark.major ∷ []) (c.reserve-2.ensures.same no_number))
    (c.push_reserved-3.ensures no_number (λ h. grind (arith, nat_tests, h))
    ∙ ap (λ us. us ++ c.args.mark.minor ∷ []) (c.reserve-3.ensures.same no_number))
    (c.push_reserved-4.ensures own_index (λ h.
    let at : c.args.position ≡ c.len.result = grind (arith, nat_tests, h) in at ∙ (c.len.ensures
    ∙ (c.self.inside.ends.ok.0 ∙ (length_positions _ _ c.self.invariant
    ∙ sym (ap length (c.reserve-4.ensures.same own_index))))))
    ∙ ap (λ us. us ++ c.args.position ∷ []) (c.reserve-4.ensures.same own_index)))

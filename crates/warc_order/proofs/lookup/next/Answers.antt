use Rattle.std.proofs.Common.{sym, subst, ◌∙◌, ◌≡◌, true≢false, true, All}
use Rattle.std.proofs.lemmas.Slice.Eq.{bytes_eq-Decides}
use Rattle.std.specs.Ordering.{is_le}
use Rattle.warc_order.specs.Ranking.{IsFirstOf}
use Rattle.warc_order.specs.Entries.{entry_at}
use Rattle.warc_order.specs.Layout.{slot_order, slot_for}
use Rattle.warc_order.proofs.OrderLemmas.{strict_order, slot_in_order, next_entry, other_next, none_next}
use Rattle.warc_order.proofs.lookup.next.Goals as goal

pub next_after-requires : goal.next_after-requires
next_after-requires g c = strict_order c.args.entries.now _ c.args.ranked.now.list c.requires.order.order

pub returns-in-Some-clause-within : goal.returns-in-Some-clause-within
returns-in-Some-clause-within g c =
    let found : IsFirstOf (slot_order c.args.entries.now) (λ f. is_le (slot_order c.args.entries.now f (slot_for
    c.args.entries.now c.args.index))) c.args.ranked.now.list c.in-Some.s.slot =
    subst (λ s. IsFirstOf (slot_order c.args.entries.now) (λ f. is_le (slot_order c.args.entries.now f s))
    c.args.ranked.now.list c.in-Some.s.slot) c.slot_of.ensures c.in-Some.ensures.some in
    rw c.found_at.ensures (slot_in_order c.args.entries.now c.args.ranked.now.list c.in-Some.s.slot
    c.requires.order.order found.is_present).index

pub returns-in-Some-clause-some : goal.returns-in-Some-clause-some
returns-in-Some-clause-some g c =
    let found : IsFirstOf (slot_order c.args.entries.now) (λ f. is_le (slot_order c.args.entries.now f (slot_for
    c.args.entries.now c.args.index))) c.args.ranked.now.list c.in-Some.s.slot =
    subst (λ s. IsFirstOf (slot_order c.args.entries.now) (λ f. is_le (slot_order c.args.entries.now f s))
    c.args.ranked.now.list c.in-Some.s.slot) c.slot_of.ensures c.in-Some.ensures.some in
    let same : (entry_at c.args.entries.now c.in-Some.s.slot.index).text ≡ (entry_at c.args.entries.now
    c.args.index).text = sym c.text.ensures ∙ ((bytes_eq-Decides c.text.result.now c.text-text.result.now).0 (sym
    c.eq.ensures ∙ c.if-eq.true) ∙ c.text-text.ensures) in
    rw c.found_at.ensures (next_entry c.args.entries.now c.args.ranked.now.list c.args.index c.in-Some.s.slot
    c.requires.order c.requires.index found same)

pub returns-in_default-clause-none : goal.returns-in_default-clause-none
returns-in_default-clause-none g c =
    let found : IsFirstOf (slot_order c.args.entries.now) (λ f. is_le (slot_order c.args.entries.now f (slot_for
    c.args.entries.now c.args.index))) c.args.ranked.now.list c.in-Some.s.slot =
    subst (λ s. IsFirstOf (slot_order c.args.entries.now) (λ f. is_le (slot_order c.args.entries.now f s))
    c.args.ranked.now.list c.in-Some.s.slot) c.slot_of.ensures c.in-Some.ensures.some in
    other_next c.args.entries.now c.args.ranked.now.list c.args.index c.in-Some.s.slot c.requires.order
    c.requires.index found
    (λ e. true≢false (sym ((bytes_eq-Decides c.text.result.now c.text-text.result.now).1 (c.text.ensures ∙ (e
    ∙ sym c.text-text.ensures))) ∙ (sym c.eq.ensures ∙ c.if-eq.false)))

pub returns-in_default-2-clause-none : goal.returns-in_default-2-clause-none
returns-in_default-2-clause-none g c =
    none_next c.args.entries.now c.args.ranked.now.list c.args.index c.requires.order c.requires.index
    (subst (λ s. All (λ f. is_le (slot_order c.args.entries.now f s) ≡ true) c.args.ranked.now.list)
    c.slot_of.ensures c.in_default.ensures.none)

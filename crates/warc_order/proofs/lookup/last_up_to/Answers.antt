use Rattle.std.proofs.Common.{sym, subst, ◌∙◌, ◌≡◌, true≢false, false, All}
use Rattle.std.proofs.lemmas.Slice.Eq.{bytes_eq-Decides}
use Rattle.std.specs.Ordering.{is_le}
use Rattle.warc_order.specs.Hashes.{hash_of}
use Rattle.warc_order.specs.Ranking.{IsLastOf}
use Rattle.warc_order.specs.Entries.{entry_at}
use Rattle.warc_order.specs.Layout.{key_cmp, key_at, slot_order}
use Rattle.warc_order.proofs.OrderLemmas.{cut_le, slot_order_total, slot_in_order, last_up_to, other_up_to, none_up_to}
use Rattle.warc_order.proofs.lookup.last_up_to.Goals as goal

pub last_passing-requires : goal.last_passing-requires
last_passing-requires g c = cut_le c.args.entries.now c.args.ranked.now.list _ c.requires.order.ranked

pub returns-in-Some-clause-within : goal.returns-in-Some-clause-within
returns-in-Some-clause-within g c =
    let found : IsLastOf (slot_order c.args.entries.now) (λ f. is_le (key_cmp (key_at c.args.entries.now f)
    (record {
      hash = hash_of c.args.text.now;
      text = c.args.text.now;
      mark =
          c.args.mark;
    }))) c.args.ranked.now.list c.in-Some.s.slot =
    subst (λ h. IsLastOf (slot_order c.args.entries.now) (λ f. is_le (key_cmp (key_at c.args.entries.now f)
    (record { hash = h; text = c.args.text.now; mark = c.args.mark }))) c.args.ranked.now.list c.in-Some.s.slot)
    c.hash_of.ensures
    (c.in-Some.ensures.some (slot_order c.args.entries.now) (slot_order_total c.args.entries.now)
    c.requires.order.ranked) in
    rw c.found_at.ensures (slot_in_order c.args.entries.now c.args.ranked.now.list c.in-Some.s.slot
    c.requires.order found.is_present).index

pub returns-in-Some-clause-some : goal.returns-in-Some-clause-some
returns-in-Some-clause-some g c =
    let found : IsLastOf (slot_order c.args.entries.now) (λ f. is_le (key_cmp (key_at c.args.entries.now f)
    (record {
      hash = hash_of c.args.text.now;
      text = c.args.text.now;
      mark =
          c.args.mark;
    }))) c.args.ranked.now.list c.in-Some.s.slot =
    subst (λ h. IsLastOf (slot_order c.args.entries.now) (λ f. is_le (key_cmp (key_at c.args.entries.now f)
    (record { hash = h; text = c.args.text.now; mark = c.args.mark }))) c.args.ranked.now.list c.in-Some.s.slot)
    c.hash_of.ensures
    (c.in-Some.ensures.some (slot_order c.args.entries.now) (slot_order_total c.args.entries.now)
    c.requires.order.ranked) in
    let same : (entry_at c.args.entries.now c.in-Some.s.slot.index).text ≡ c.args.text.now = sym c.text.ensures
    ∙ (bytes_eq-Decides c.text.result.now c.args.text.now).0 (sym c.eq.ensures ∙ c.if-eq.true) in
    rw c.found_at.ensures (last_up_to c.args.entries.now c.args.ranked.now.list c.args.text.now c.args.mark
    c.in-Some.s.slot c.requires found same)

pub returns-in_default-clause-none : goal.returns-in_default-clause-none
returns-in_default-clause-none g c =
    let found : IsLastOf (slot_order c.args.entries.now) (λ f. is_le (key_cmp (key_at c.args.entries.now f)
    (record {
      hash = hash_of c.args.text.now;
      text = c.args.text.now;
      mark =
          c.args.mark;
    }))) c.args.ranked.now.list c.in-Some.s.slot =
    subst (λ h. IsLastOf (slot_order c.args.entries.now) (λ f. is_le (key_cmp (key_at c.args.entries.now f)
    (record { hash = h; text = c.args.text.now; mark = c.args.mark }))) c.args.ranked.now.list c.in-Some.s.slot)
    c.hash_of.ensures
    (c.in-Some.ensures.some (slot_order c.args.entries.now) (slot_order_total c.args.entries.now)
    c.requires.order.ranked) in
    other_up_to c.args.entries.now c.args.ranked.now.list c.args.text.now c.args.mark c.in-Some.s.slot c.requires
    found
    (λ e. true≢false (sym ((bytes_eq-Decides c.text.result.now c.args.text.now).1 (c.text.ensures ∙ e))
    ∙ (sym c.eq.ensures ∙ c.if-eq.false)))

pub returns-in_default-2-clause-none : goal.returns-in_default-2-clause-none
returns-in_default-2-clause-none g c =
    none_up_to c.args.entries.now c.args.ranked.now.list c.args.text.now c.args.mark c.requires
    (subst (λ h. All (λ f. is_le (key_cmp (key_at c.args.entries.now f) (record {
      hash = h;
      text =
          c.args.text.now;
      mark = c.args.mark;
    })) ≡ false) c.args.ranked.now.list) c.hash_of.ensures
    c.in_default.ensures.none)

use Rattle.std.proofs.Common.{refl, sym, ◌∙◌, inr}
use Rattle.warc_frame.proofs.OnlyLemmas.{found_end, found_first, found_second, found_still}
use Rattle.warc_frame.proofs.front.only_value.Goals.{then-is+else-is_some, else-is}
use Rattle.warc_frame.proofs.front.only_value.Goals as goal

pub returns-then-is_some : goal.returns-then-is_some
returns-then-is_some g c =
    let all = c.as_slice-field-items.ensures in
    inr (found_second _ _ _ _ (rw all at c.loop-field-test.true) (rw all at c.field-item.is) _ c.loop-field.invariant (sym c.is_some.ensures ∙ c.if-is_some.true) (sym c.is.ensures ∙ c.if-is.true), refl)

pub loop-field-preserved : goal.loop-field-preserved
loop-field-preserved g c =
    let all = c.as_slice-field-items.ensures in
    let inside = rw all at c.loop-field-test.true in
    let item = rw all at c.field-item.is in
    elim c.if-is.branch [
      | then-is+else-is_some w ↦
          found_first _ _ _ _ inside item _ _ _ c.loop-field.invariant (sym w.is_some.ensures ∙ w.if-is_some.false) (sym c.is.ensures ∙ w.if-is.true) w.found-is refl
      | else-is w ↦ found_still _ _ _ _ inside item _ _ c.loop-field.invariant (sym c.is.ensures ∙ w.if-is.false) w.found-is
    ]

pub returns : goal.returns
returns g c = found_end _ _ _ _ _ c.loop-field.invariant (rw c.as_slice-field-items.ensures at c.loop-field-test.false) c.ok_or.ensures.value

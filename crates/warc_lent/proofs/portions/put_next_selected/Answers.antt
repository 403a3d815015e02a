use Rattle.std.proofs.Common.{◌≡◌, ◌∙◌, Some, refl, sym, true≢false}
use Rattle.std.specs.List.{slice_get}
use Rattle.warc_lent.proofs.PortionLemmas.{selected_put}
use Rattle.warc_lent.proofs.portions.put_next_selected.Goals as goal

pub returns-then-not-has_range-clause-puts : goal.returns-then-not-has_range-clause-puts
returns-then-not-has_range-clause-puts g c = λ is below.
    let rows = c.args.archive.now.listing.rows in
    let here : slice_get rows c.in-Some.position ≡ Some c.in-Some-row.row = sym c.row.ensures ∙ c.in-Some-row.is in
    let place = c.next_selected-offset.ensures.place c.args.bytes.now rows c.in-Some.position is here in
    absurd (true≢false (sym (c.has_range.ensures.1 place.range) ∙ c.if-not-has_range.true))

pub returns-clause-puts : goal.returns-clause-puts
returns-clause-puts g c = λ is below.
    let rows = c.args.archive.now.listing.rows in
    let at : slice_get c.args.positions.now c.args.cursor.place ≡ Some c.in-Some.position = sym c.position_at.ensures.position ∙ c.in-Some.is in
    let here : slice_get rows c.in-Some.position ≡ Some c.in-Some-row.row = sym c.row.ensures ∙ c.in-Some-row.is in
    selected_put rows c.args.positions.now c.args.bytes.now c.args.cursor c.in-Some-row.row _
    (c.next_selected-offset.ensures.place c.args.bytes.now rows c.in-Some.position is here) refl refl
    (c.next_selected-offset.ensures.next c.args.bytes.now c.args.positions.now rows c.in-Some.position at here)

use Rattle.std.proofs.Common.{◌≡◌, Some, ap, arith, get_or, sym, take_all, ◌∙◌}
use Rattle.std.specs.List.{slice_get}
use Rattle.warc_rewrite.specs.Selecting.{at_positions, records_len}
use Rattle.warc_rewrite.proofs.SelectionLaws.{len_more, selection_len}
use Rattle.warc_rewrite.proofs.selection.selected_len.Goals as goal

pub counting-preserved : goal.counting-preserved
counting-preserved g c = λ bytes is.
    let rows = c.args.rows.now in
    let ps = c.args.positions.now in
    let i = c.counting.chosen-index in
    let at : slice_get rows (get_or ps i 0) ≡ Some c.in-Some.row = sym c.get.ensures ∙ c.in-Some.is in
    let more = len_more bytes rows ps i c.in-Some.row c.counting.total c.whole_len.result is c.requires.ascending c.counting-test.true at
    (c.counting.invariant bytes is) c.whole_len.ensures.exact in
    omega (arith, more.0, more.1, c.saturating_add-total.ensures)

pub returns : goal.returns
returns g c = λ bytes is.
    let ps = c.args.positions.now in
    c.counting.invariant bytes is
    ∙ ap (λ l. records_len (at_positions c.args.rows.now l)) (take_all _ ps c.counting-test.false)
    ∙ sym (selection_len bytes c.args.rows.now ps is)

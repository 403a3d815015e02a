use Rattle.std.proofs.Common.{◌≡◌, ◌+◌, map, take, set, sym, subst, ap, ◌∙◌, Some}
use Rattle.std.specs.List.{slice_get}
use Rattle.warc_lent.specs.Buffers.{HoldsFront}
use Rattle.warc_lent.specs.Rows.{row_numbers}
use Rattle.warc_lent.proofs.BufferLemmas.{front_next}
use Rattle.warc_page.proofs.front.put_rows.Goals as goal

pub putting-preserved : goal.putting-preserved
putting-preserved g c =
    let i = c.putting.position in
    let all = c.args.listing.now.rows in
    let at : slice_get all i ≡ Some c.in-Some.row = sym c.row.ensures ∙ c.in-Some.is in
    subst (λ l. HoldsFront (map row_numbers (take (i + 1) all)) l) (sym (c.put_row.ensures ∙ ap (set c.putting.rows i) c.row_numbers.ensures))
    (front_next row_numbers all c.putting.rows i c.in-Some.row at c.putting.invariant)

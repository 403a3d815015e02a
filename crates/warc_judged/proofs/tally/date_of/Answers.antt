use Rattle.std.proofs.Common.{◌≡◌, Some, length, refl, sym, ap, subst, ◌∙◌, arith}
use Rattle.std.specs.List.{slice_get}
use Rattle.warc_reading.specs.Row.{Row}
use Rattle.warc_judged.specs.Tallies.{IsEndSoFar}
use Rattle.warc_judged.proofs.SummaryLemmas.{end_there, end_whole, same_at}
use Rattle.warc_judged.proofs.tally.date_of.Goals as goal

pub returns : goal.returns
returns g c = λ end so_far.
    let rows = c.args.rows.now in
    let n = length rows in
    let p = c.in_ok-best.field-0.position in
    let found = subst (λ o. IsEndSoFar end rows n o) c.in_ok-best.was so_far in
    let at : slice_get rows p ≡ Some c.in_ok-row.row = sym c.get.ensures ∙ c.in_ok-row.was in
    let same = same_at rows p p c.in_ok-row.row found.0 refl at (end_there end rows n p found.0 found.1) in
    (p, found.0, end_whole end rows n p found.0 (omega arith) found.1, ap (λ (r : Row). r.date) (c.row.view_is ∙ same))

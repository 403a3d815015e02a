use Rattle.std.proofs.Common.{◌≡◌, ◌++◌, take, Some, sym, ap, ◌∙◌}
use Rattle.std.specs.List.{slice_get}
use Rattle.warc_reading.specs.Row.{Row}
use Rattle.warc_replay.specs.Captures.{capture_positions, position_if}
use Rattle.warc_judged.proofs.LineLemmas.{lines_next}
use Rattle.warc_replay.proofs.replay.captures.capture_positions.Goals as goal

pub listing-preserved : goal.listing-preserved
listing-preserved g c =
    let i = c.listing.position in
    let at : slice_get c.args.rows.now i ≡ Some c.in-Some.row = sym c.get.ensures ∙ c.in-Some.is in
    c.in_ok-push_if.ensures ∙ ap (λ l. l ++ position_if i c.row.inside.kind.now) c.listing.invariant
    ∙ ap (λ (r : Row). capture_positions (take i c.args.rows.now) ++ position_if i r.kind) c.row.view_is
    ∙ lines_next (λ n (r : Row). position_if n r.kind) c.args.rows.now i c.in-Some.row at

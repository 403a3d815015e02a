use Rattle.std.proofs.Common.{ap, arith}
use Rattle.warc_portions.proofs.PortionLemmas.{place_is}
use Rattle.warc_reading.specs.Row.{Row}
use Rattle.warc_portions.proofs.place.record_place.Goals as goal

pub returns : goal.returns
returns c = λ bytes rows position is at.
    let offset = ap (λ (r : Row). r.offset) c.row.view_is in
    let start = ap (λ (r : Row). r.block_start) c.row.view_is in
    let len = ap (λ (r : Row). r.block_len) c.row.view_is in
    place_is bytes rows position c.args.row.now _ _ is at offset
    (λ low. omega (arith, offset, start, len, low, c.saturating_add.ensures, c.saturating_add-end.ensures, c.saturating_sub.ensures))

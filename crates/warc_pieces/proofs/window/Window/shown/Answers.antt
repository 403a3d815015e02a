use Rattle.std.proofs.Common.{◌≡◌, ◌-◌, length, slice_range, ap, ◌∙◌, arith, length-drop}
use Rattle.warc_pieces.proofs.WindowLemmas.{part_len}
use Rattle.warc_pieces.proofs.window.Window.shown.Goals as goal

pub returns-clause-limit : goal.returns-clause-limit
returns-clause-limit g c = λ low.
    let w = c.self.inside in
    let part : length c.part-bytes.result.now ≡ w.end - w.start = ap length c.part-bytes.ensures ∙ ap (λ xs. length (slice_range xs w.start w.end)) c.as_slice.ensures.value ∙ part_len w.buf.items w.start w.end c.self.invariant.within in
    omega (arith, ap length c.after.ensures, length-drop (c.args.at - w.begin) c.part-bytes.result.now, part, c.self.invariant.limit, low)

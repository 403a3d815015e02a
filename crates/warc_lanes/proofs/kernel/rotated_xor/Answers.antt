use Rattle.std.proofs.Common.{◌∙◌, ap}
use Rattle.std.specs.Int.{w32, rotate_left}
use Rattle.warc_lanes.proofs.LaneLemmas.{at_itself, at_zip}
use Rattle.warc_lanes.proofs.kernel.rotated_xor.Goals as goal

pub returns : goal.returns
returns c j h =
    let a = at_itself c.args.a j c.fits-a.0 in
    let b = at_itself c.args.b j c.fits-b.0 in
    let all = at_zip _ h (at_zip _ h (at_zip _ h a b) (at_itself c.args.c j c.fits-c.0)) (at_itself c.args.d j c.fits-d.0) in
    c.rotate.ensures j h ∙ ap (λ x. rotate_left w32 x 1) all.lane_is

use Rattle.std.proofs.Common.{◌≡◌, ◌-◌, ◌%◌, ◌∙◌, arith, refl}
use Rattle.warc_lanes.proofs.LaneLemmas.{at_itself, at_zip, at_splat}
use Rattle.warc_lanes.proofs.kernel.rotate.Goals as goal

pub returns : goal.returns
returns c j h =
    let k = c.args.k in
    let left : k % 32 ≡ k = omega arith in
    let right : (32 - k) % 32 ≡ 32 - k = omega arith in
    let x = at_itself c.args.x j c.fits-x.0 in
    (at_zip _ h (at_zip _ h x (at_splat k j h)) (at_zip _ h x (at_splat (32 - k) j h))).lane_is ∙ rw (left, right) refl

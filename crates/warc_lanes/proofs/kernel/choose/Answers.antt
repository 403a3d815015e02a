use Rattle.warc_lanes.proofs.LaneLemmas.{at_itself, at_zip, at_map}
use Rattle.warc_lanes.proofs.kernel.choose.Goals as goal

pub returns : goal.returns
returns c j h =
    let x = at_itself c.args.x j c.fits-x.0 in
    let y = at_itself c.args.y j c.fits-y.0 in
    let z = at_itself c.args.z j c.fits-z.0 in
    (at_zip _ h (at_zip _ h x y) (at_zip _ h (at_map _ h x) z)).lane_is

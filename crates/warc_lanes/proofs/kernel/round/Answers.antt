use Rattle.std.proofs.Common.{refl}
use Rattle.warc_lanes.proofs.LaneLemmas.{at_splat, word_of_lane}
use Rattle.warc_lanes.proofs.kernel.round.Goals as goal

pub returns : goal.returns
returns c j h =
    let v = c.args.v in
    rw (
      c.add-first.ensures j h,
      c.add-3.ensures j h,
      (at_splat c.args.k j h).lane_is,
      c.add-2.ensures j h,
      c.add.ensures j h,
      c.rotate.ensures j h,
      c.rotate-2.ensures j h,
      word_of_lane j v 0,
      word_of_lane j v 1,
      word_of_lane j v 2,
      word_of_lane j v 3,
      word_of_lane j v 4,
    ) refl

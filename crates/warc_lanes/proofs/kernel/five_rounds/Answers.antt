use Rattle.std.proofs.Common.{◌+◌, arith}
use Rattle.warc_lanes.proofs.RoundLemmas.{same_round}
use Rattle.warc_lanes.proofs.kernel.five_rounds.Goals as goal

pub returns : goal.returns
returns c j h block hash before =
    let t = c.args.t in
    let one = c.step-v.ensures j h block hash before in
    let two = same_round block hash _ _ (t + 1 + 1) (t + 2) (omega arith) (c.step-v-2.ensures j h block hash one) in
    let three = same_round block hash _ _ (t + 2 + 1) (t + 3) (omega arith) (c.step-v-3.ensures j h block hash two) in
    let four = same_round block hash _ _ (t + 3 + 1) (t + 4) (omega arith) (c.step-v-4.ensures j h block hash three) in
    same_round block hash _ _ (t + 4 + 1) (t + 5) (omega arith) (c.step.ensures j h block hash four)

use Rattle.std.proofs.Common.{ℕ, ◌+◌, arith}
use Rattle.warc_lanes.proofs.RoundLemmas.{same_round}
use Rattle.warc_lanes.proofs.kernel.twenty_rounds.Goals as goal

pub returns : goal.returns
returns g c j h block hash before =
    let t : ℕ = g.row.T in
    let five = c.five_rounds-v.ensures j h block hash before in
    let ten = same_round block hash _ _ (t + 5 + 5) (t + 10) (omega arith) (c.five_rounds-v-2.ensures j h block hash five) in
    let fifteen = same_round block hash _ _ (t + 10 + 5) (t + 15) (omega arith) (c.five_rounds-v-3.ensures j h block hash ten) in
    same_round block hash _ _ (t + 15 + 5) (t + 20) (omega arith) (c.five_rounds.ensures j h block hash fifteen)

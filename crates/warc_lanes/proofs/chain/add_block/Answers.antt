use Rattle.std.proofs.Common.{refl, ap}
use Rattle.sha1.specs.Sha1.{add_state, compress, rounds}
use Rattle.warc_lanes.proofs.chain.add_block.Goals as goal

pub returns : goal.returns
unfolding compress rounds
returns c block keyed =
    let hash = c.args.state.now in
    let twenty = c.twenty_rounds-v.ensures block hash keyed refl in
    let forty = c.twenty_rounds-v-2.ensures block hash keyed twenty in
    let sixty = c.twenty_rounds-v-3.ensures block hash keyed forty in
    ap (add_state hash) (c.twenty_rounds-v-4.ensures block hash keyed sixty)

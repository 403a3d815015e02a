use Rattle.warc_lanes.specs.Lanes.{lane_of, bytes_in}
use Rattle.warc_lanes.proofs.RoundLemmas.{before_rounds, block_added}
use Rattle.warc_lanes.proofs.kernel.compress.Goals as goal

pub returns : goal.returns
returns c j h =
    let text = bytes_in j c.args.blocks.now in
    let state = c.args.state.now in
    let hash = lane_of j state in
    let start = before_rounds hash text _ (c.load.ensures j h) in
    let twenty = c.twenty_rounds-v.ensures j h text hash start in
    let forty = c.twenty_rounds-v-2.ensures j h text hash twenty in
    let sixty = c.twenty_rounds-v-3.ensures j h text hash forty in
    let eighty = c.twenty_rounds-v-4.ensures j h text hash sixty in
    block_added j state c.twenty_rounds-v-4.result text _ _ _ _ _ eighty.variables_are (c.add.ensures j h) (c.add-2.ensures j h)
    (c.add-3.ensures j h) (c.add-4.ensures j h) (c.add-5.ensures j h)

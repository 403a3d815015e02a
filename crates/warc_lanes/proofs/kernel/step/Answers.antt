use Rattle.warc_lanes.specs.Lanes.{lane_of}
use Rattle.warc_lanes.proofs.RoundLemmas.{round_taken}
use Rattle.warc_lanes.proofs.kernel.step.Goals as goal

pub returns : goal.returns
returns c j h block hash before = record {
  words = c.word-word.ensures.window j h block before.words;
  variables_are = round_taken block hash (lane_of j c.args.window.now) (lane_of j c.args.v) _ c.args.t _ _ _ before.variables_are
      (c.mix.ensures j h) c.constant.ensures (c.word-word.ensures.value j h block before.words) (c.round.ensures j h);
}

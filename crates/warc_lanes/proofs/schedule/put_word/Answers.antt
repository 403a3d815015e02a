use Rattle.std.proofs.Common.{◌∙◌, ap₂, arith}
use Rattle.sha1.specs.Sha1.{add32}
use Rattle.warc_lanes.proofs.KeyedLemmas.{keyed_more}
use Rattle.warc_lanes.proofs.LaneLemmas.{at_splat}
use Rattle.warc_lanes.proofs.schedule.put_word.Goals as goal

pub returns : goal.returns
returns c j h block held = record {
  words = c.word-word.ensures.window j h block held.words;
  keyed_are = keyed_more block _ j c.args.t c.args.keyed.now (omega arith)
      (c.add.ensures j h ∙ ap₂ add32 (c.word-word.ensures.value j h block held.words) ((at_splat c.constant.result j h).lane_is ∙ c.constant.ensures))
      held.keyed_are;
}

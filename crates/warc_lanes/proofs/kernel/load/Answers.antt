use Rattle.std.proofs.Common.{rules, arith}
use Rattle.warc_lanes.specs.Lanes.{bytes_in}
use Rattle.warc_lanes.proofs.RoundLemmas.{load_more, loaded_words}
use Rattle.warc_lanes.proofs.kernel.load.Goals as goal

pub load-preserved : goal.load-preserved
load-preserved c = (
  search rules,
  λ j h. load_more c.load.window c.words_at.result _ c.load.i j c.load.invariant.0 (omega arith) (c.words_at.ensures j h) (c.load.invariant.1 j h),
)

pub returns : goal.returns
returns c j h = loaded_words j (bytes_in j c.args.blocks.now) c.load.window c.load.invariant.0 (λ k below. c.load.invariant.1 j h k (omega arith))

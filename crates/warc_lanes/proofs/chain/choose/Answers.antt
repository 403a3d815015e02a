use Rattle.std.proofs.Common.{arith}
use Rattle.warc_lanes.proofs.WordLemmas.{choose_is}
use Rattle.warc_lanes.proofs.chain.choose.Goals as goal

pub returns : goal.returns
returns c = choose_is c.args.x c.args.y c.args.z (omega arith) (omega arith) (omega arith)

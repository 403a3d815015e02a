use Rattle.std.proofs.Common.{arith}
use Rattle.warc_lanes.proofs.WordLemmas.{majority_is}
use Rattle.warc_lanes.proofs.chain.majority.Goals as goal

pub returns : goal.returns
returns c = majority_is c.args.x c.args.y c.args.z (omega arith) (omega arith)

use Rattle.std.proofs.Common.{arith}
use Rattle.warc_lanes.proofs.MessageLemmas.{less_left}
use Rattle.warc_lanes.proofs.each.Hashing.advance.Goals as goal

pub returns-clause-less : goal.returns-clause-less
returns-clause-less c = λ lane below taken left.
    less_left c.args.self.now.left _ _ _ _ c.args.taken lane (omega arith) c.saturating_sub.ensures c.saturating_sub-2.ensures c.saturating_sub-3.ensures
    c.saturating_sub-4.ensures below taken left

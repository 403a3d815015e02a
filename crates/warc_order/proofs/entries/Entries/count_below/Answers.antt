use Rattle.std.proofs.Common.{◌≤◌, arith}
use Rattle.warc_order.proofs.EntryLemmas.{front_below}
use Rattle.warc_order.proofs.entries.Entries.count_below.Goals as goal

pub returns-clause-front : goal.returns-clause-front
returns-clause-front g c =
    let le : c.loop-low.low ≤ c.loop-low.high = c.loop-low.invariant.order in
    front_below c.args.self.now c.loop-low.low c.args.position (λ k h lt. c.loop-low.invariant.front k h) (λ k h
    lt. c.loop-low.invariant.back k (omega arith) lt)

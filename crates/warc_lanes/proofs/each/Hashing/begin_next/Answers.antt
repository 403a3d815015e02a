use Rattle.std.proofs.Common.{arith}
use Rattle.warc_lanes.proofs.MessageLemmas.{left_along}
use Rattle.warc_lanes.proofs.each.Hashing.begin_next.Goals as goal

pub returns-clause-left : goal.returns-clause-left
returns-clause-left c =
    let old = c.args.self.now in
    let padded = c.padded_at-padded in
    left_along c.args.messages.now old.left c.args.lane padded.result.len old.next c.min-self.result (omega arith) c.requires.ended c.requires.next
    (λ below. (padded.ensures.message below).len_is) padded.ensures.none (omega arith)

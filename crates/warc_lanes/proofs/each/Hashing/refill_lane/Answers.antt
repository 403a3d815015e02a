use Rattle.std.proofs.Common.{arith}
use Rattle.warc_lanes.proofs.MessageLemmas.{refilled}
use Rattle.warc_lanes.proofs.each.Hashing.refill_lane.Goals as goal

pub returns-clause-hashing : goal.returns-clause-hashing
returns-clause-hashing c =
    let finish = c.finish-digest in
    refilled c.args.messages.now c.args.lanes.now finish.new.self c.args.self.now c.begin_next.new.self c.args.digests.now c.put_digest.new.digests c.args.lane
    finish.result c.requires.hashing c.requires.lane (omega arith) finish.ensures.digest finish.ensures.begun finish.ensures.others c.put_digest.ensures
    c.begin_next.ensures.begins

use Rattle.std.proofs.Common.{◌<◌, arith}
use Rattle.warc_lanes.proofs.MessageLemmas.{advanced, all_given, step_less}
use Rattle.warc_lanes.proofs.each.digest_each.Goals as goal

pub refill-requires-in-Some : goal.refill-requires-in-Some
refill-requires-in-Some c =
    let before = c.hashing in
    let update = c.update-taken in
    let advance = c.advance.ensures in
    advanced c.args.messages.now c.pieces.result before.lanes update.new.self before.hashing c.advance.new.self before.digests update.result before.invariant.0
    before.invariant.1 advance.padded advance.next advance.left c.pieces.ensures.next (omega (arith, update.ensures.len, c.pieces.ensures.blocks))
    (omega (arith, update.ensures.len)) update.ensures.taken

pub hashing-smaller : goal.hashing-smaller
hashing-smaller c =
    let before = c.hashing in
    let update = c.update-taken in
    let advance = c.advance.ensures in
    let taken : 0 < update.result = omega (arith, update.ensures.len, c.pieces.ensures.some, c.pieces.ensures.blocks) in
    step_less c.args.messages.now before.hashing c.advance.new.self c.refill-in-Some.new.self c.refill-in-Some.ensures.left advance.next
    (advance.less c.in-Some.busy c.in-Some.ensures.0 taken c.in-Some.ensures.1)

pub returns : goal.returns
returns c =
    let before = c.hashing in
    all_given c.args.messages.now before.lanes before.hashing before.digests before.invariant.0 before.invariant.1 c.in_default.ensures

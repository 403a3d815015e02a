use Rattle.std.proofs.Common.{◌-◌, arith, refl}
use Rattle.warc_lanes.proofs.PieceLemmas.{piece_of_blocks, piece_of_tail}
use Rattle.warc_lanes.proofs.each.Padded.piece.Goals as goal

pub returns-then-done-whole : goal.returns-then-done-whole
returns-then-done-whole c =
    let padded = c.args.self.now in
    let whole = c.whole_len-whole in
    let long = c.requires.message.len_is in
    piece_of_blocks c.args.message.now _ c.args.left (padded.len - c.args.left) whole.result whole.ensures (omega arith) c.requires.blocks (omega arith)
    c.if-done-whole.true refl

pub returns-else-done-whole : goal.returns-else-done-whole
returns-else-done-whole c =
    let padded = c.args.self.now in
    let whole = c.whole_len-whole in
    piece_of_tail c.args.message.now padded.tail _ padded.len c.args.left (padded.len - c.args.left) whole.result whole.ensures c.requires.message.len_is refl
    c.requires.some c.requires.within c.requires.blocks c.if-done-whole.false (rw whole.ensures c.requires.message.tail_is) refl

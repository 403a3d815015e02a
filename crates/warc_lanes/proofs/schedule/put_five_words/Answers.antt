use Rattle.std.proofs.Common.{◌+◌, arith}
use Rattle.warc_lanes.proofs.KeyedLemmas.{same_word}
use Rattle.warc_lanes.proofs.schedule.put_five_words.Goals as goal

pub returns : goal.returns
returns c j h block before =
    let t = c.args.t in
    let one = c.put_word.ensures j h block before in
    let two = same_word block _ _ (t + 1 + 1) (t + 2) (omega arith) (c.put_word-2.ensures j h block one) in
    let three = same_word block _ _ (t + 2 + 1) (t + 3) (omega arith) (c.put_word-3.ensures j h block two) in
    let four = same_word block _ _ (t + 3 + 1) (t + 4) (omega arith) (c.put_word-4.ensures j h block three) in
    same_word block _ _ (t + 4 + 1) (t + 5) (omega arith) (c.put_word-5.ensures j h block four)

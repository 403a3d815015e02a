use Rattle.std.proofs.Common.{ℕ, ◌+◌, arith}
use Rattle.warc_lanes.proofs.KeyedLemmas.{same_word}
use Rattle.warc_lanes.proofs.schedule.put_twenty_words.Goals as goal

pub returns : goal.returns
returns g c j h block before =
    let t : ℕ = g.row.T in
    let five = c.put_five_words.ensures j h block before in
    let ten = same_word block _ _ (t + 5 + 5) (t + 10) (omega arith) (c.put_five_words-2.ensures j h block five) in
    let fifteen = same_word block _ _ (t + 10 + 5) (t + 15) (omega arith) (c.put_five_words-3.ensures j h block ten) in
    same_word block _ _ (t + 15 + 5) (t + 20) (omega arith) (c.put_five_words-4.ensures j h block fifteen)

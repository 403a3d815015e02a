use Rattle.warc_reading.proofs.PairLemmas.{some_next, some_record, taken_back}
use Rattle.warc_reading.proofs.pair.KeptPairKeep.keep.Goals as goal

pub returns-in-Err-clause-err : goal.returns-in-Err-clause-err
returns-in-Err-clause-err g c = λ records is at.
    let head = c.args.head.now in
    let p = some_record head c.args.block_start c.args.block_len in
    let next = some_next head c.args.block_start c.args.block_len c.fields-fields.ensures.good in (
      c.in-Err.ensures.err records is.0 at,
      taken_back g.L.Keep.keeps _ records p c.args.position at (c.truncate.ensures _ (c.in_ok-keep.ensures.ok records p is.1 at next tt)),
    )

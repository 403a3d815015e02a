use Rattle.warc_reading.proofs.PairLemmas.{taken_back}
use Rattle.warc_reading.proofs.pair.KeptPairKeep.keep_plain.Goals as goal

pub returns-in-Err-clause-err : goal.returns-in-Err-clause-err
returns-in-Err-clause-err g c = λ records is at. (
  c.in-Err.ensures.err records is.0 at,
  taken_back g.L.Keep.keeps _ records c.requires.next.0 c.args.position at
      (c.truncate.ensures _ (c.in_ok-keep_plain.ensures.ok records c.requires.next.0 is.1 at c.requires.next.1)),
)

use Rattle.warc_record.proofs.GoodLemmas.{good_heads_read}
use Rattle.warc_record.proofs.laws.good_heads_read.Goals as goal

pub returns : goal.returns
returns c = good_heads_read

use Rattle.warc_write.proofs.ConversionLemmas.{converted_stays_good}
use Rattle.warc_write.proofs.laws.converted_stays_good.Goals as goal

pub returns : goal.returns
returns c = converted_stays_good

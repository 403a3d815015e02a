use Rattle.warc_write.proofs.ConversionLemmas.{converted_says_the_same}
use Rattle.warc_write.proofs.laws.converted_says_the_same.Goals as goal

pub returns : goal.returns
returns c = converted_says_the_same

use Rattle.warc.proofs.ConversionLemmas.{conversion_keeps_answers}
use Rattle.warc.proofs.laws.conversion_keeps_answers.Goals as goal

pub returns : goal.returns
returns c = conversion_keeps_answers c.converted_says_the_same.ensures

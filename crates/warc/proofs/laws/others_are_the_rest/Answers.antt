use Rattle.warc.proofs.RestLemmas.{others_are_the_rest}
use Rattle.warc.proofs.laws.others_are_the_rest.Goals as goal

pub returns : goal.returns
returns c = others_are_the_rest

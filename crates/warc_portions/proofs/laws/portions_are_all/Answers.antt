use Rattle.warc_portions.proofs.OutputLemmas.{portions_are_all}
use Rattle.warc_portions.proofs.laws.portions_are_all.Goals as goal

pub returns : goal.returns
returns c = portions_are_all

use Rattle.warc_portions.proofs.OutputLemmas.{split_begins}
use Rattle.warc_portions.proofs.laws.split_begins.Goals as goal

pub returns : goal.returns
returns c = split_begins

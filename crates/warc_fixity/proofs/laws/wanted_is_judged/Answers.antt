use Rattle.warc_fixity.proofs.StatedLemmas.{wanted_is_judged}
use Rattle.warc_fixity.proofs.laws.wanted_is_judged.Goals as goal

pub returns : goal.returns
returns c = wanted_is_judged

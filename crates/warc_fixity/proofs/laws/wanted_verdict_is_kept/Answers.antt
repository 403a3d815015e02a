use Rattle.warc_fixity.proofs.StatedLemmas.{wanted_verdict_is_kept}
use Rattle.warc_fixity.proofs.laws.wanted_verdict_is_kept.Goals as goal

pub returns : goal.returns
returns c = wanted_verdict_is_kept

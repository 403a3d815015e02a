use Rattle.warc_frame.proofs.LawLemmas.{fronts_are_same}
use Rattle.warc_frame.proofs.laws.fronts_are_same.Goals as goal

pub returns : goal.returns
returns c = fronts_are_same

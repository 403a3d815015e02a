use Rattle.warc_frame.proofs.LawLemmas.{heads_are_stable}
use Rattle.warc_frame.proofs.laws.heads_are_stable.Goals as goal

pub returns : goal.returns
returns c = heads_are_stable

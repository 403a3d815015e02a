use Rattle.warc_frame.proofs.LawLemmas.{head_of_spelled}
use Rattle.warc_frame.proofs.laws.head_of_spelled.Goals as goal

pub returns : goal.returns
returns c = head_of_spelled

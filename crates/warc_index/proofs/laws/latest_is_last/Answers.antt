use Rattle.warc_index.proofs.LawLemmas.{latest_is_last}
use Rattle.warc_index.proofs.laws.latest_is_last.Goals as goal

pub returns : goal.returns
returns c = latest_is_last

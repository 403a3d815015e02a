use Rattle.warc_index.proofs.LawLemmas.{chosen_is_latest}
use Rattle.warc_index.proofs.laws.chosen_is_latest.Goals as goal

pub returns : goal.returns
returns c = chosen_is_latest

use Rattle.warc_write.proofs.JoinLemmas.{split_joins}
use Rattle.warc_write.proofs.laws.split_joins.Goals as goal

pub returns : goal.returns
returns c = split_joins

use Rattle.warc_index.proofs.LawLemmas.{loops_where_unfinished}
use Rattle.warc_index.proofs.laws.loops_where_unfinished.Goals as goal

pub returns : goal.returns
returns c = loops_where_unfinished

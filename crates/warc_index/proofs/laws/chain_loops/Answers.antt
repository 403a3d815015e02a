use Rattle.warc_index.proofs.LawLemmas.{chain_loops}
use Rattle.warc_index.proofs.laws.chain_loops.Goals as goal

pub returns : goal.returns
returns c = chain_loops

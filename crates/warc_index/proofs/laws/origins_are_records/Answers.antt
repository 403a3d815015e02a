use Rattle.warc_index.proofs.LawLemmas.{origins_are_records}
use Rattle.warc_index.proofs.laws.origins_are_records.Goals as goal

pub returns : goal.returns
returns c = origins_are_records

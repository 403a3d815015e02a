use Rattle.warc_portions.proofs.OutputLemmas.{ends_after_records}
use Rattle.warc_portions.proofs.laws.ends_after_records.Goals as goal

pub returns : goal.returns
returns c = ends_after_records

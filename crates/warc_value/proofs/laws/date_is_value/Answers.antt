use Rattle.warc_value.proofs.ValueLemmas.{date_is_value}
use Rattle.warc_value.proofs.laws.date_is_value.Goals as goal

pub returns : goal.returns
returns c = date_is_value

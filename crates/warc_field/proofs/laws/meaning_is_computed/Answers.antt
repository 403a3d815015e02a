use Rattle.warc_field.proofs.LawLemmas.{meaning_is_computed}
use Rattle.warc_field.proofs.laws.meaning_is_computed.Goals as goal

pub returns : goal.returns
returns c = meaning_is_computed

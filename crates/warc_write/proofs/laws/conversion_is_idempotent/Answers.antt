use Rattle.warc_write.proofs.ConversionLemmas.{conversion_is_idempotent}
use Rattle.warc_write.proofs.laws.conversion_is_idempotent.Goals as goal

pub returns : goal.returns
returns c = conversion_is_idempotent

use Rattle.warc_value.proofs.ValueLemmas.{written_digest_is_value}
use Rattle.warc_value.proofs.laws.written_digest_is_value.Goals as goal

pub returns : goal.returns
returns c = written_digest_is_value

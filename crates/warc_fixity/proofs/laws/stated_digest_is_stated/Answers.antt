use Rattle.warc_fixity.proofs.StatedLemmas.{stated_digest_is_stated}
use Rattle.warc_fixity.proofs.laws.stated_digest_is_stated.Goals as goal

pub returns : goal.returns
returns c = stated_digest_is_stated

use Rattle.warc_record.proofs.ListedLemmas.{numbers_never_fall}
use Rattle.warc_record.proofs.laws.numbers_never_fall.Goals as goal

pub returns : goal.returns
returns c = numbers_never_fall

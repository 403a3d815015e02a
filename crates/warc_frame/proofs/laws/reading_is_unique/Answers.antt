use Rattle.warc_frame.proofs.LawLemmas.{reading_is_unique, reading_is_unique-some}
use Rattle.warc_frame.proofs.laws.reading_is_unique.Goals as goal

pub returns-clause-some : goal.returns-clause-some
returns-clause-some c = reading_is_unique-some

pub returns-clause-one : goal.returns-clause-one
returns-clause-one c = reading_is_unique

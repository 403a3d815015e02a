use Rattle.warc_frame.proofs.LawLemmas.{reading_is_spelling, reading_is_spelling-read}
use Rattle.warc_frame.proofs.laws.reading_is_spelling.Goals as goal

pub returns-clause-read : goal.returns-clause-read
returns-clause-read c = reading_is_spelling-read

pub returns-clause-spelled : goal.returns-clause-spelled
returns-clause-spelled c = reading_is_spelling

use Rattle.warc_field.proofs.LawLemmas.{empty_line_ends_area}
use Rattle.warc_field.proofs.laws.empty_line_ends_area.Goals as goal

pub returns-clause-there : goal.returns-clause-there
returns-clause-there c = λ fields area more spells. (empty_line_ends_area fields area more spells).0

pub returns-clause-first : goal.returns-clause-first
returns-clause-first c = λ fields area more spells. (empty_line_ends_area fields area more spells).1

use Rattle.warc.proofs.LawLemmas.{archives_spell}
use Rattle.warc.proofs.laws.an_archive_spells_its_records.Goals as goal

pub returns : goal.returns
returns c = archives_spell

use Rattle.warc.proofs.MigrationLemmas.{written_opens_as_same, written_spells}
use Rattle.warc.proofs.laws.written_opens_as_same.Goals as goal

pub returns-clause-spells : goal.returns-clause-spells
returns-clause-spells c = written_spells c.rendered_opens_as_same.ensures c.converted_stays_good.ensures

pub returns-clause-same : goal.returns-clause-same
returns-clause-same c = written_opens_as_same c.rendered_opens_as_same.ensures c.converted_stays_good.ensures

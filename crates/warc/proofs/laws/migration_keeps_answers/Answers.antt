use Rattle.warc.proofs.MigrationLemmas.{migration_keeps_answers, migration_keeps_replays}
use Rattle.warc.proofs.laws.migration_keeps_answers.Goals as goal

pub returns-clause-answers : goal.returns-clause-answers
returns-clause-answers c = migration_keeps_answers c.written_opens_as_same.ensures.same c.conversion_keeps_answers.ensures

pub returns-clause-replays : goal.returns-clause-replays
returns-clause-replays c = migration_keeps_replays (migration_keeps_answers c.written_opens_as_same.ensures.same c.conversion_keeps_answers.ensures)

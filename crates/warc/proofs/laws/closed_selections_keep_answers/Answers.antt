use Rattle.warc.proofs.ClosedLawLemmas.{answers_are_kept, bodies_are_kept, lines_are_kept, outcomes_are_kept, stored_bodies_are_kept}
use Rattle.warc.proofs.laws.closed_selections_keep_answers.Goals as goal

pub returns-clause-outcomes : goal.returns-clause-outcomes
returns-clause-outcomes c = outcomes_are_kept c.latest_is_last.ensures c.chain_loops.ensures

pub returns-clause-answers : goal.returns-clause-answers
returns-clause-answers c = answers_are_kept c.latest_is_last.ensures c.chain_loops.ensures

pub returns-clause-bodies : goal.returns-clause-bodies
returns-clause-bodies c = bodies_are_kept c.latest_is_last.ensures c.chain_loops.ensures

pub returns-clause-stored : goal.returns-clause-stored
returns-clause-stored c = stored_bodies_are_kept c.latest_is_last.ensures c.chain_loops.ensures

pub returns-clause-lines : goal.returns-clause-lines
returns-clause-lines c = lines_are_kept c.selection_is_an_archive.ensures.records

use Rattle.warc_answer.proofs.LoopLemmas.{loops_are_answered, loops_are_replayed}
use Rattle.warc_answer.proofs.laws.loops_are_answered.Goals as goal

pub returns-clause-answers : goal.returns-clause-answers
returns-clause-answers c = loops_are_answered c.chosen_is_latest.ensures c.chain_loops.ensures

pub returns-clause-replays : goal.returns-clause-replays
returns-clause-replays c = loops_are_replayed c.chosen_is_latest.ensures c.chain_loops.ensures

use Rattle.warc_answer.proofs.AnswerLemmas.{paths_end_inside}
use Rattle.warc_answer.proofs.laws.paths_end_inside.Goals as goal

pub returns : goal.returns
returns c = paths_end_inside c.chosen_is_latest.ensures c.origins_are_records.ensures

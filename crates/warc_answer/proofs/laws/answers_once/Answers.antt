use Rattle.warc_answer.proofs.AnswerLemmas.{answers_once}
use Rattle.warc_answer.proofs.laws.answers_once.Goals as goal

pub returns : goal.returns
returns c =
    answers_once c.at_most_one_body.ensures c.no_body_where_coded.ensures c.one_of_three.ensures
    c.chosen_is_latest.ensures c.origins_are_records.ensures

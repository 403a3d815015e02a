use Rattle.warc_answer.proofs.ReasonLemmas.{reasons_are_answers}
use Rattle.warc_answer.proofs.laws.reasons_are_answers.Goals as goal

pub returns : goal.returns
returns c = reasons_are_answers

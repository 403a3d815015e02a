use Rattle.warc_answer.proofs.GiveLemmas.{places_are_as_long}
use Rattle.warc_answer.proofs.laws.places_are_as_long.Goals as goal

pub returns : goal.returns
returns c = places_are_as_long

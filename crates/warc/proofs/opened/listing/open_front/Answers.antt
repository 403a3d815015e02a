use Rattle.warc.proofs.FrontLemmas.{front_opened}
use Rattle.warc.proofs.opened.listing.open_front.Goals as goal

pub returns : goal.returns
returns g c = front_opened _ _ _ _ _ c.err.ensures.value c.read_front-answer.ensures.opens c.read_front-answer.ensures.front

use Rattle.warc_segment.proofs.LawLemmas.{places_hold_the_block}
use Rattle.warc_segment.proofs.laws.places_hold_the_block.Goals as goal

pub returns : goal.returns
returns c = places_hold_the_block

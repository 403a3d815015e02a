use Rattle.warc_pieces.proofs.LawLemmas.{pieces_are_unique}
use Rattle.warc_pieces.proofs.laws.pieces_are_unique.Goals as goal

pub returns : goal.returns
returns c = pieces_are_unique

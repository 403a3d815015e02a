use Rattle.warc_pieces.proofs.LawLemmas.{front_is_first_piece}
use Rattle.warc_pieces.proofs.laws.the_front_is_the_first_piece.Goals as goal

pub returns : goal.returns
returns c = front_is_first_piece

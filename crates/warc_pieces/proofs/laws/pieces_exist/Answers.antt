use Rattle.warc_pieces.proofs.ExistLemmas.{pieces_exist}
use Rattle.warc_pieces.proofs.laws.pieces_exist.Goals as goal

pub returns : goal.returns
returns c = pieces_exist

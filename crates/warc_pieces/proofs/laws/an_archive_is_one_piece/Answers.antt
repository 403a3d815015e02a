use Rattle.warc_pieces.proofs.LawLemmas.{archive_is_one_piece}
use Rattle.warc_pieces.proofs.laws.an_archive_is_one_piece.Goals as goal

pub returns : goal.returns
returns c = archive_is_one_piece

use Rattle.warc_pieces.proofs.SalvageLemmas.{salvaged_is_an_archive}
use Rattle.warc_pieces.proofs.laws.good_records_of_pieces.Goals as goal

pub returns : goal.returns
returns c = salvaged_is_an_archive

use Rattle.warc_pieces.proofs.MergeLemmas.{archive_put_before}
use Rattle.warc_pieces.proofs.laws.archives_put_before.Goals as goal

pub returns : goal.returns
returns c = archive_put_before

use Rattle.warc_record.proofs.ListedLemmas.{listed_where_they_hold}
use Rattle.warc_record.proofs.laws.listed_where_they_hold.Goals as goal

pub returns : goal.returns
returns c = listed_where_they_hold

use Rattle.warc_record.proofs.LawLemmas.{keys_are_no_longer}
use Rattle.warc_record.proofs.laws.keys_are_no_longer.Goals as goal

pub returns : goal.returns
returns c = keys_are_no_longer

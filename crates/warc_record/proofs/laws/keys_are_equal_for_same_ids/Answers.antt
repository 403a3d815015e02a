use Rattle.warc_record.proofs.LawLemmas.{keys_are_equal_for_same_ids}
use Rattle.warc_record.proofs.laws.keys_are_equal_for_same_ids.Goals as goal

pub returns : goal.returns
returns c = keys_are_equal_for_same_ids

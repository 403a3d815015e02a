use Rattle.warc_record.proofs.GoodLemmas.{good_heads_have_no_fault}
use Rattle.warc_record.proofs.laws.good_heads_have_no_fault.Goals as goal

pub returns : goal.returns
returns c = good_heads_have_no_fault

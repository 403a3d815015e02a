use Rattle.warc_record.proofs.CountLemmas.{findings_are_short}
use Rattle.warc_record.proofs.laws.findings_are_short.Goals as goal

pub returns : goal.returns
returns c = findings_are_short

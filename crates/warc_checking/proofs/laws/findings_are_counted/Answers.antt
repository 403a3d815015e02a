use Rattle.warc_checking.proofs.CountLemmas.{findings_are_counted}
use Rattle.warc_checking.proofs.laws.findings_are_counted.Goals as goal

pub returns : goal.returns
returns c = findings_are_counted

use Rattle.warc_checking.proofs.CheckLemmas.{puts_same}
use Rattle.warc_checking.proofs.OwnFindingLemmas.{once_line}
use Rattle.warc_checking.proofs.finding_list.put_once.Goals as goal

pub returns : goal.returns
returns g c = puts_same (once_line c.args.position _ c.args.holds c.if-not-holds.false) c.put_finding.ensures

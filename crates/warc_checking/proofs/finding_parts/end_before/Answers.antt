use Rattle.std.proofs.Common.{arith}
use Rattle.warc_checking.proofs.OwnFindingLemmas.{end_is}
use Rattle.warc_checking.proofs.finding_parts.end_before.Goals as goal

pub returns : goal.returns
returns c = end_is c.args.ends.now c.args.position 0 (omega (arith, c.if-position-eq0.false)) c.requires

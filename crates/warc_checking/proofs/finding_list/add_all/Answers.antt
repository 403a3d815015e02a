use Rattle.std.proofs.Common.{map, take, ◌∙◌}
use Rattle.warc_record.specs.Findings.{finding_seen}
use Rattle.warc_checking.proofs.finding_list.add_all.Goals as goal

pub returns-in_err-push-clause-more : goal.returns-in_err-push-clause-more
returns-in_err-push-clause-more g c =
    (map finding_seen (take c.adding.finding-index c.args.found.now), c.in_err-push.ensures.err ∙ c.adding.invariant)

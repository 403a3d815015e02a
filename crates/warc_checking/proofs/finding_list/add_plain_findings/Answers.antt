use Rattle.std.proofs.Common.{map, take, ◌∙◌}
use Rattle.warc_record.specs.Findings.{plain_seen}
use Rattle.warc_checking.proofs.finding_list.add_plain_findings.Goals as goal

pub returns-in_err-push-clause-more : goal.returns-in_err-push-clause-more
returns-in_err-push-clause-more g c =
    (map plain_seen (take c.adding.one-index c.args.found.now), c.in_err-push.ensures.err ∙ c.adding.invariant)

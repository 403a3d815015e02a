use Rattle.std.proofs.Common.{ap}
use Rattle.warc_checking.specs.Lines.{record_lines}
use Rattle.warc_checking.specs.OwnFindings.{with_both}
use Rattle.warc_checking.proofs.CheckLemmas.{puts_same}
use Rattle.warc_checking.proofs.OwnFindingLemmas.{part_found}
use Rattle.warc_checking.proofs.finding_list.put_part.Goals as goal

pub returns : goal.returns
returns g c =
    puts_same (ap (λ f. record_lines c.args.position (with_both f c.args.facts.bad_digest c.args.facts.used_id)) (part_found c.args.names.now c.args.findings.now c.args.part)) c.put_found.ensures

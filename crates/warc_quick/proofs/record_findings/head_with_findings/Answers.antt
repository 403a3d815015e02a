use Rattle.warc_quick.proofs.JudgedLemmas.{judged}
use Rattle.warc_quick.proofs.record_findings.head_with_findings.Goals as goal

pub returns-clause-head : goal.returns-clause-head
returns-clause-head c =
    judged c.args.text.now c.in_ok-head.head c.head_with_values.new.values.values c.findings_of-head.result c.in_ok-head.ensures.head
    c.findings_of-head.ensures

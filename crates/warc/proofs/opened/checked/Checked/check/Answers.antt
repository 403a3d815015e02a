use Rattle.std.proofs.Common.{ap, ◌∙◌}
use Rattle.std.proofs.lemmas.Result.{IfOk-weaker}
use Rattle.warc_checking.proofs.CountLemmas.{counted}
use Rattle.warc_checking.proofs.NextLemmas.{judged_by}
use Rattle.warc.proofs.opened.checked.Checked.check.Goals as goal

pub returns-clause-reports : goal.returns-clause-reports
returns-clause-reports g c bytes is =
    let findings = judged_by c.head_of_spelled.ensures bytes _ is _ _ (ap (λ v. v.listing.rows) c.self.view_is) (ap (λ v. v.findings) c.self.view_is) in
    record {
      reported = c.write_findings.ensures.reported bytes is.listed.are.records findings;
      number = IfOk-weaker c.write_findings.result _ _ (λ n e. e ∙ counted bytes _ is.listed) (c.write_findings.ensures.number bytes is.listed.are.records findings);
      cut = c.write_findings.ensures.cut bytes is.listed.are.records findings;
    }

use Rattle.warc_commands.proofs.console.Reporter.report_extract.Goals as goal

pub returns-in-Err-NoRecord-clause-reported : goal.returns-in-Err-NoRecord-clause-reported
returns-in-Err-NoRecord-clause-reported g c =
    let missing = rw c.in-Err-NoRecord.is at c.in-Err-NoRecord.field-0-is in
    rw c.in-Err-NoRecord.is (rw missing c.report.ensures)

use Rattle.warc_commands.proofs.console.Reporter.report_salvaged.Goals as goal

pub returns-clause-reported : goal.returns-clause-reported
returns-clause-reported g c = (_, c.refuse-status.ensures.reported, c.report_line.ensures)

use Rattle.warc_commands.proofs.console.Console.report_payloads.Goals as goal

pub returns-in-Ok : goal.returns-in-Ok
returns-in-Ok g c = rw c.in-Ok.is c.report_judged.ensures

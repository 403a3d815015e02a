use Rattle.std.proofs.Common.{inl, inr}
use Rattle.warc_commands.proofs.PiecesLemmas.{printed, printed_in_part}
use Rattle.warc_commands.proofs.console.Console.print.Goals as goal

pub returns-in-Ok-clause-ends : goal.returns-in-Ok-clause-ends
returns-in-Ok-clause-ends g c = inl (printed _ _ _ _ _ _ _ c.in-Ok.found c.in-Ok.ensures c.report_end.ensures.reported c.report_end.ensures.status)

pub returns-in-Err-clause-ends : goal.returns-in-Err-clause-ends
returns-in-Err-clause-ends g c = inr (inl (printed_in_part _ _ _ _ _ _ _ c.in-Err.fault c.in-Err.ensures c.fail.ensures.reported c.fail.ensures.status))

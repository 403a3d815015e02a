use Rattle.std.proofs.Common.{inl, inr, refl, ap}
use Rattle.warc_frame.specs.FaultText.{out_fault_text}
use Rattle.warc_frame.specs.Send.{sent_of}
use Rattle.warc_commands.specs.Program.{reported_line}
use Rattle.warc_commands.proofs.ProgramLemmas.{reported_as}
use Rattle.warc_commands.proofs.console.Console.report_judged.Goals as goal

pub returns-in-Ok : goal.returns-in-Ok
returns-in-Ok g c = inl (c.in-Ok.ensures.reported, c.in-Ok.ensures.cause, refl, c.status_of.ensures.value, c.status_of.ensures.cases)

pub returns-in-Err : goal.returns-in-Err
returns-in-Err g c = inr (
  sent_of c.in-Err.fault,
  c.in-Err.ensures.cut,
  c.in-Err.ensures.cause,
  reported_as (ap (λ e. reported_line (out_fault_text e)) c.in-Err.ensures.write) c.fail.ensures.reported,
  c.fail.ensures.status,
)

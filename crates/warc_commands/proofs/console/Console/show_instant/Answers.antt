use Rattle.std.proofs.Common.{inl, inr, refl, ap}
use Rattle.warc_frame.specs.FaultText.{out_fault_text}
use Rattle.warc_frame.specs.Send.{sent_of}
use Rattle.warc_commands.specs.Program.{reported_line}
use Rattle.warc_commands.proofs.ProgramLemmas.{reported_as}
use Rattle.warc_commands.proofs.console.Console.show_instant.Goals as goal

pub returns-in-Ok : goal.returns-in-Ok
returns-in-Ok g c = inl (record { reported = c.in-Ok.ensures.reported; unfailed = c.in-Ok.ensures.cause; silent = refl; status_is = refl })

pub returns-in-Err : goal.returns-in-Err
returns-in-Err g c = inr (record {
  sent = sent_of c.in-Err.fault;
  front = c.in-Err.ensures.cut;
  failed = c.in-Err.ensures.cause;
  reported = reported_as (ap (λ e. reported_line (out_fault_text e)) c.in-Err.ensures.write) c.fail.ensures.reported;
  status_is = c.fail.ensures.status;
})

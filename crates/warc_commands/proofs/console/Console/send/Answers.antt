use Rattle.std.proofs.Common.{length, inl, inr, refl}
use Rattle.warc_commands.proofs.ChoiceLemmas.{fails_over, nothing_after}
use Rattle.warc_commands.proofs.ProgramLemmas.{reported_as}
use Rattle.warc_commands.proofs.console.Console.send.Goals as goal

pub returns-in-Ok-clause-ends : goal.returns-in-Ok-clause-ends
returns-in-Ok-clause-ends g c = inl (record {
  size = c.selected_len-size.result;
  reported = λ bytes held is. c.in-Ok.ensures.selects.sends.out bytes _ held (is, refl);
  size_is = λ bytes held is. c.selected_len-size.ensures bytes is;
  unfailed = c.in-Ok.ensures.selects.sends.cause;
  sound = c.in-Ok.ensures.selects.sends.fails.may;
  printed = reported_as (nothing_after (length c.args.positions.now) c.selected_len-size.result) c.report_line.ensures;
  status_is = refl;
})

pub returns-in-Err-clause-ends : goal.returns-in-Err-clause-ends
returns-in-Err-clause-ends g c = inr (record {
  fault = c.in-Err.fault;
  device = c.in-Err.ensures.selects.device;
  front = λ bytes held is. c.in-Err.ensures.selects.sends.cut bytes _ held (is, refl);
  fails = fails_over c.args.archive.now.rows c.args.positions.now c.in-Err.ensures.selects.sends.fails;
  failed = c.in-Err.ensures.selects.sends.cause;
  reported = c.fail.ensures.reported;
  status_is = c.fail.ensures.status;
})

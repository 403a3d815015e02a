use Rattle.std.proofs.Common.{inl, inr, is_none, refl, sym, ap, ◌∙◌}
use Rattle.std.proofs.lemmas.Bool.{ltb-true}
use Rattle.warc_frame.specs.FaultText.{out_fault_text}
use Rattle.warc_frame.specs.Send.{sent_of}
use Rattle.warc_commands.specs.Program.{reported_line}
use Rattle.warc_commands.proofs.MakingLemmas.{refused, some_of}
use Rattle.warc_commands.proofs.ProgramLemmas.{reported_as}
use Rattle.warc_commands.proofs.console.Console.write.Goals as goal

pub returns-in-Ok-None-clause-ends : goal.returns-in-Ok-None-clause-ends
returns-in-Ok-None-clause-ends g c = inr (inl (record {
  fault = c.refusal_of.result;
  is = λ bytes held.
      refused c.refusal_of.result _ (c.refusal_of.ensures bytes (ltb-true _ _ (sym (c.in-Ok-None.ensures.long bytes held) ∙ ap is_none c.in-Ok-None.field-0-is)));
  sound = c.in-Ok-None.ensures.failed;
  untouched = refl;
  reported = c.report_unmade.ensures.reported;
  status_is = c.report_unmade.ensures.status;
}))

pub returns-in-Err-make_by-clause-ends : goal.returns-in-Err-make_by-clause-ends
returns-in-Err-make_by-clause-ends g c = inr (inl (record {
  fault = c.in-Err-make_by.fault;
  is = λ bytes held. c.in-Err-make_by.ensures bytes (c.deref.ensures.value ∙ some_of _ c.in-Ok-Some.field-0-is (c.in-Ok-Some.ensures.bytes bytes held));
  sound = c.in-Ok-Some.ensures.failed;
  untouched = refl;
  reported = c.report_unmade-in-Err-make_by.ensures.reported;
  status_is = c.report_unmade-in-Err-make_by.ensures.status;
}))

pub returns-in-Ok-render_one-clause-ends : goal.returns-in-Ok-render_one-clause-ends
returns-in-Ok-render_one-clause-ends g c = inl (record {
  is = λ bytes held. record {
    content = c.in-Ok.framed;
    is = c.in-Ok.ensures bytes (c.deref.ensures.value ∙ some_of _ c.in-Ok-Some.field-0-is (c.in-Ok-Some.ensures.bytes bytes held));
    reported = c.in-Ok-render_one.ensures.reported;
  };
  unfailed = c.in-Ok-render_one.ensures.cause;
  sound = c.in-Ok-Some.ensures.failed;
  silent = refl;
  status_is = refl;
})

pub returns-clause-ends : goal.returns-clause-ends
returns-clause-ends g c = inr (inr (inr (record {
  sent = sent_of c.in-Err-render_one.fault;
  is = λ bytes held. record {
    content = c.in-Ok.framed;
    is = c.in-Ok.ensures bytes (c.deref.ensures.value ∙ some_of _ c.in-Ok-Some.field-0-is (c.in-Ok-Some.ensures.bytes bytes held));
    front = c.in-Err-render_one.ensures.cut;
  };
  failed = c.in-Err-render_one.ensures.cause;
  sound = c.in-Ok-Some.ensures.failed;
  reported = reported_as (ap (λ e. reported_line (out_fault_text e)) c.in-Err-render_one.ensures.write) c.fail-in-Err-render_one.ensures.reported;
  status_is = c.fail-in-Err-render_one.ensures.status;
})))

use Rattle.std.proofs.Common.{inl, inr, refl, ap, ◌∙◌}
use Rattle.warc_frame.specs.FaultText.{out_fault_text}
use Rattle.warc_frame.specs.Send.{sent_of}
use Rattle.warc_commands.specs.Program.{reported_line}
use Rattle.warc_commands.proofs.ProgramLemmas.{reported_as}
use Rattle.warc_commands.proofs.ReadLemmas.{opened_in_order}
use Rattle.warc_commands.proofs.console.Console.summary.Goals as goal

pub returns-in-Ok : goal.returns-in-Ok
returns-in-Ok g c = record {
  ends = inl (record {
    rows = c.in_ok-summarized.summarized.listing.rows;
    flags = c.in_ok-summarized.summarized.flags;
    are = c.in_ok-summarized.ensures.accepted;
    summary = c.summary.result;
    is = c.summary.ensures;
    reported = c.in-Ok.ensures.reported;
    unfailed = c.in-Ok.ensures.cause;
    sound = ap (λ s. (g.S.Source.seen s).faults) c.into_source.ensures ∙ c.in_ok-summarized.ensures.reads.cause;
    silent = refl;
    status_is = refl;
  });
  kept = ap (λ s. (g.S.Source.seen s).holds) c.into_source.ensures ∙ c.in_ok-summarized.ensures.reads.kept;
  reads = opened_in_order c.in_ok-summarized.ensures (ap (λ s. g.S.Source.seen s) c.into_source.ensures);
}

pub returns-in-Err : goal.returns-in-Err
returns-in-Err g c = record {
  ends = inr (inr (record {
    rows = c.in_ok-summarized.summarized.listing.rows;
    flags = c.in_ok-summarized.summarized.flags;
    are = c.in_ok-summarized.ensures.accepted;
    summary = c.summary.result;
    is = c.summary.ensures;
    sent = sent_of c.in-Err.fault;
    front = c.in-Err.ensures.cut;
    failed = c.in-Err.ensures.cause;
    sound = ap (λ s. (g.S.Source.seen s).faults) c.into_source-in-Err.ensures ∙ c.in_ok-summarized.ensures.reads.cause;
    reported = reported_as (ap (λ e. reported_line (out_fault_text e)) c.in-Err.ensures.write) c.fail.ensures.reported;
    status_is = c.fail.ensures.status;
  }));
  kept = ap (λ s. (g.S.Source.seen s).holds) c.into_source-in-Err.ensures ∙ c.in_ok-summarized.ensures.reads.kept;
  reads = opened_in_order c.in_ok-summarized.ensures (ap (λ s. g.S.Source.seen s) c.into_source-in-Err.ensures);
}

use Rattle.std.proofs.Common.{Ok, Err, inl, refl, ap, ◌∙◌}
use Rattle.warc_answer.specs.Answers.{path_at}
use Rattle.warc_replay.specs.Outcomes.{answer_seen}
use Rattle.warc_commands.proofs.ReadLemmas.{opened, replay_read, thrice_at_most}
use Rattle.warc_commands.proofs.StoredLemmas.{chosen_of_bytes, stored_given}
use Rattle.warc_commands.proofs.console.Console.stored_as_of.Goals as goal

pub returns-in-Ok : goal.returns-in-Ok
returns-in-Ok g c = record {
  ends = inl (record {
    found = Ok c.in-Ok.position;
    is = chosen_of_bytes c.args.uri.now c.args.moment.now _ c.in_ok-archive.ensures c.in-Ok.ensures;
    ends = stored_given c.in-Ok.position (answer_seen c.stored_to-answer.result) c.in_ok-archive.ensures c.stored_to-answer.ensures.gives (ap (λ s. g.S.Source.seen s) c.into_source.ensures) c.report_stored.ensures.reported c.report_stored.ensures.status;
  });
  kept = ap (λ s. (g.S.Source.seen s).holds) c.into_source.ensures ∙ c.stored_to-answer.ensures.gives.keeps.kept ∙ c.in_ok-archive.ensures.reads.kept;
  reads = replay_read (λ records. path_at records c.in-Ok.position) c.in_ok-archive.ensures (ap (λ s. g.S.Source.seen s) c.into_source.ensures) c.stored_to-answer.ensures.gives.reads c.stored_to-answer.ensures.gives.inside;
}

pub returns-in-Err : goal.returns-in-Err
returns-in-Err g c = record {
  ends = inl (record {
    found = Err c.in-Err.unfound;
    is = chosen_of_bytes c.args.uri.now c.args.moment.now _ c.in_ok-archive.ensures c.in-Err.ensures;
    ends = record {
      sound = ap (λ s. (g.S.Source.seen s).faults) c.into_source-in-Err.ensures ∙ c.in_ok-archive.ensures.reads.cause;
      untouched = refl;
      reported = c.report_replay-status.ensures.reported;
      status_is = c.report_replay-status.ensures.status;
    };
  });
  kept = ap (λ s. (g.S.Source.seen s).holds) c.into_source-in-Err.ensures ∙ c.in_ok-archive.ensures.reads.kept;
  reads = thrice_at_most (opened c.in_ok-archive.ensures (ap (λ s. g.S.Source.seen s) c.into_source-in-Err.ensures));
}

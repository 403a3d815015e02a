use Rattle.std.proofs.Common.{inl, ap, ◌∙◌}
use Rattle.warc_answer.specs.Answers.{path_at}
use Rattle.warc_replay.specs.Outcomes.{answer_seen}
use Rattle.warc_commands.proofs.ReadLemmas.{replay_read}
use Rattle.warc_commands.proofs.StoredLemmas.{stored_given}
use Rattle.warc_commands.proofs.console.Console.stored_at.Goals as goal

pub returns : goal.returns
returns g c = record {
  ends = inl (stored_given c.args.position (answer_seen c.stored_to-answer.result) c.in_ok-archive.ensures c.stored_to-answer.ensures.gives (ap (λ s. g.S.Source.seen s) c.into_source.ensures) c.report_stored.ensures.reported c.report_stored.ensures.status);
  kept = ap (λ s. (g.S.Source.seen s).holds) c.into_source.ensures ∙ c.stored_to-answer.ensures.gives.keeps.kept ∙ c.in_ok-archive.ensures.reads.kept;
  reads = replay_read (λ records. path_at records c.args.position) c.in_ok-archive.ensures (ap (λ s. g.S.Source.seen s) c.into_source.ensures) c.stored_to-answer.ensures.gives.reads c.stored_to-answer.ensures.gives.inside;
}

use Rattle.std.proofs.Common.{inl, sym, ap, ◌∙◌}
use Rattle.warc_answer.specs.Answers.{path_at}
use Rattle.warc_replay.specs.Bodies.{body_result}
use Rattle.warc_reading.specs.Archive.{contents}
use Rattle.warc_commands.proofs.ProgramLemmas.{failed_as, good_records_of, may_have_failed_as}
use Rattle.warc_commands.proofs.ReadLemmas.{replay_read}
use Rattle.warc_commands.proofs.console.Console.body_at.Goals as goal

pub returns : goal.returns
returns g c = record {
  ends = inl (record {
    answer = c.replay_at-answer.result;
    is = λ bytes held.
        let archive = c.in_ok-archive.ensures.accepted bytes held in
        record {
          records = contents archive.listed.are.records;
          are = good_records_of archive.listed;
          reported = c.replay_at-answer.ensures.gives.reported bytes (c.in_ok-archive.ensures.reads.kept ∙ held) archive.listed archive.kept;
          source = failed_as (body_result c.replay_at-answer.result) _ _ _ _ c.in_ok-archive.ensures.reads.cause (ap (λ s. (g.S.Source.seen s).faults) (sym c.into_source.ensures)) (c.replay_at-answer.ensures.gives.fails.failed bytes (c.in_ok-archive.ensures.reads.kept ∙ held) (archive.listed, archive.kept));
        };
    silent = c.replay_at-answer.ensures.gives.silent;
    source = may_have_failed_as (body_result c.replay_at-answer.result) _ _ _ _ c.in_ok-archive.ensures.reads.cause (ap (λ s. (g.S.Source.seen s).faults) (sym c.into_source.ensures)) c.replay_at-answer.ensures.gives.fails.may;
    failed = c.replay_at-answer.ensures.gives.cause;
    reported = c.report_body.ensures.reported;
    status_is = c.report_body.ensures.status;
  });
  kept = ap (λ s. (g.S.Source.seen s).holds) c.into_source.ensures ∙ c.replay_at-answer.ensures.gives.keeps.kept ∙ c.in_ok-archive.ensures.reads.kept;
  reads = replay_read (λ records. path_at records c.args.position) c.in_ok-archive.ensures (ap (λ s. g.S.Source.seen s) c.into_source.ensures) c.replay_at-answer.ensures.gives.reads c.replay_at-answer.ensures.gives.inside;
}

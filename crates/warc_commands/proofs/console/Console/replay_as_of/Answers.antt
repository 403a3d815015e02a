use Rattle.std.proofs.Common.{inl, sym, ap, ◌∙◌}
use Rattle.warc_answer.specs.Answers.{path_for}
use Rattle.warc_answer.specs.Replays.{out_result}
use Rattle.warc_reading.specs.Archive.{contents}
use Rattle.warc_commands.proofs.ProgramLemmas.{failed_as, good_records_of, may_have_failed_as}
use Rattle.warc_commands.proofs.ReadLemmas.{replay_read}
use Rattle.warc_commands.proofs.console.Console.replay_as_of.Goals as goal

pub returns : goal.returns
returns g c = record {
  ends = inl (record {
    answer = c.replay-answer.result;
    is = λ bytes held.
        let archive = c.in_ok-archive.ensures.accepted bytes held in
        record {
          records = contents archive.listed.are.records;
          are = good_records_of archive.listed;
          reported = c.replay-answer.ensures.replays.reported bytes (c.in_ok-archive.ensures.reads.kept ∙ held) archive.listed archive.kept;
          source = failed_as (out_result c.replay-answer.result) _ _ _ _ c.in_ok-archive.ensures.reads.cause (ap (λ s. (g.S.Source.seen s).faults) (sym c.into_source.ensures)) (c.replay-answer.ensures.replays.fails.failed bytes (c.in_ok-archive.ensures.reads.kept ∙ held) (archive.listed, archive.kept));
        };
    silent = c.replay-answer.ensures.replays.late.silent;
    source = may_have_failed_as (out_result c.replay-answer.result) _ _ _ _ c.in_ok-archive.ensures.reads.cause (ap (λ s. (g.S.Source.seen s).faults) (sym c.into_source.ensures)) c.replay-answer.ensures.replays.fails.may;
    failed = c.replay-answer.ensures.replays.late.cause;
    reported = c.report_replay.ensures.reported;
    status_is = c.report_replay.ensures.status;
  });
  kept = ap (λ s. (g.S.Source.seen s).holds) c.into_source.ensures ∙ c.replay-answer.ensures.replays.keeps.kept ∙ c.in_ok-archive.ensures.reads.kept;
  reads = replay_read (λ records. path_for records c.args.uri.now c.args.moment.now) c.in_ok-archive.ensures (ap (λ s. g.S.Source.seen s) c.into_source.ensures) c.replay-answer.ensures.replays.reads c.replay-answer.ensures.replays.inside;
}

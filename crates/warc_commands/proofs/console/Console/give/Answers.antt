use Rattle.std.proofs.Common.{inl, inr, refl, sym, ap, ◌∙◌}
use Rattle.warc_replay.specs.Parts.{extract_result}
use Rattle.std.proofs.lemmas.Result.{err_from_is_err_and}
use Rattle.warc_commands.specs.Parts.{PartEnds}
use Rattle.warc_commands.proofs.ProgramLemmas.{failed_as, may_have_failed_as}
use Rattle.warc_commands.proofs.ReadLemmas.{opened, part_read, twice_at_most, unread}
use Rattle.warc_commands.proofs.RunsLemmas.{refused}
use Rattle.warc_commands.proofs.WordLemmas.{bad_word, by_word}
use Rattle.warc_commands.proofs.console.Console.give.Goals as goal

pub returns-in-Err : goal.returns-in-Err
returns-in-Err g c = record {
  ends = bad_word (PartEnds c.args.part) _ c.in-Err.fault _ _ _ _ _ c.in-Err.ensures c.refuse_word.ensures.reported c.refuse_word.ensures.status;
  kept = refl;
  reads = twice_at_most (unread _);
}

pub returns : goal.returns
returns g c = record {
  ends =
      by_word (PartEnds c.args.part) _ c.in-Ok.position _ _ _ c.in-Ok.ensures
      (inl (record {
        answer = c.part_to-answer.result;
        is = λ bytes held.
            let archive = c.in_ok-archive.ensures.accepted bytes held in
            record {
              rows = c.in_ok-archive.archive.rows;
              is = archive;
              reported = c.part_to-answer.ensures.gives.reported bytes (c.in_ok-archive.ensures.reads.kept ∙ held) archive;
              source = failed_as (extract_result c.part_to-answer.result) _ _ _ _ c.in_ok-archive.ensures.reads.cause (ap (λ s. (g.S.Source.seen s).faults) (sym c.into_source.ensures)) (c.part_to-answer.ensures.gives.fails.failed bytes (c.in_ok-archive.ensures.reads.kept ∙ held) archive);
            };
        silent = c.part_to-answer.ensures.gives.silent;
        source = may_have_failed_as (extract_result c.part_to-answer.result) _ _ _ _ c.in_ok-archive.ensures.reads.cause (ap (λ s. (g.S.Source.seen s).faults) (sym c.into_source.ensures)) c.part_to-answer.ensures.gives.fails.may;
        failed = c.part_to-answer.ensures.gives.cause;
        reported = c.report_extract.ensures.reported;
        status_is = c.report_extract.ensures.status;
      }));
  kept = ap (λ s. (g.S.Source.seen s).holds) c.into_source.ensures ∙ c.part_to-answer.ensures.gives.reads.kept ∙ c.in_ok-archive.ensures.reads.kept;
  reads = part_read c.in_ok-archive.archive.rows (λ bytes is. is) c.in_ok-archive.ensures (ap (λ s. g.S.Source.seen s) c.into_source.ensures) c.args.part c.in-Ok.position c.part_to-answer.ensures.gives.reads;
}

pub returns-in_err-archive : goal.returns-in_err-archive
returns-in_err-archive g c =
    let e = err_from_is_err_and c.from_residual.result c.from_residual.ensures.1 in
    rw (e.1, e.2) (refused _ _ _ _ _ _ _ _ c.in_err-archive.ensures (λ new status is. by_word (PartEnds c.args.part) _ c.in-Ok.position _ new status c.in-Ok.ensures (inr is)) (twice_at_most (opened c.in_err-archive.ensures refl)))

use Rattle.std.proofs.Common.{inl, inr, refl, sym, ap, ◌∙◌}
use Rattle.warc_replay.specs.Parts.{extract_result}
use Rattle.std.proofs.lemmas.Result.{err_from_is_err_and}
use Rattle.warc_commands.proofs.ProgramLemmas.{failed_as, may_have_failed_as}
use Rattle.warc_replay.specs.declared.record.part.Part.TheVariants.{Block}
use Rattle.warc_commands.proofs.ReadLemmas.{opened, part_read, twice_at_most}
use Rattle.warc_commands.proofs.RunsLemmas.{refused}
use Rattle.warc_commands.proofs.console.Console.extract.Goals as goal

pub returns : goal.returns
returns g c = record {
  ends = inl (record {
    answer = c.extract-answer.result;
    is = λ bytes held.
        let archive = c.in_ok-archive.ensures.accepted bytes held in
        record {
          rows = c.in_ok-archive.archive.listing.rows;
          is = archive.listed;
          reported = rw (← c.as_bytes.ensures.value) (c.extract-answer.ensures.extracts.reported bytes (c.in_ok-archive.ensures.reads.kept ∙ held) archive);
          source = failed_as (extract_result c.extract-answer.result) _ _ _ _ c.in_ok-archive.ensures.reads.cause (ap (λ s. (g.S.Source.seen s).faults) (sym c.into_source.ensures)) (c.extract-answer.ensures.extracts.fails.failed bytes (c.in_ok-archive.ensures.reads.kept ∙ held) archive);
        };
    silent = c.extract-answer.ensures.extracts.silent;
    source = may_have_failed_as (extract_result c.extract-answer.result) _ _ _ _ c.in_ok-archive.ensures.reads.cause (ap (λ s. (g.S.Source.seen s).faults) (sym c.into_source.ensures)) c.extract-answer.ensures.extracts.fails.may;
    failed = c.extract-answer.ensures.extracts.cause;
    reported = c.report_extract.ensures.reported;
    status_is = c.report_extract.ensures.status;
  });
  kept = ap (λ s. (g.S.Source.seen s).holds) c.into_source.ensures ∙ c.extract-answer.ensures.extracts.near.1.kept ∙ c.in_ok-archive.ensures.reads.kept;
  reads =
      let (place, reads) = c.extract-answer.ensures.extracts.near in
      part_read c.in_ok-archive.archive.listing.rows (λ bytes is. is.listed) c.in_ok-archive.ensures (ap (λ s. g.S.Source.seen s) c.into_source.ensures) Block place reads;
}

pub returns-in_err-archive : goal.returns-in_err-archive
returns-in_err-archive g c =
    let e = err_from_is_err_and c.from_residual.result c.from_residual.ensures.1 in
    rw (e.1, e.2) (refused _ _ _ _ _ _ _ _ c.in_err-archive.ensures (λ new status is. inr is) (twice_at_most (opened c.in_err-archive.ensures refl)))

use Rattle.std.proofs.Common.{inl, inr, refl, ap, ◌∙◌}
use Rattle.std.proofs.lemmas.Result.{err_from_is_err_and}
use Rattle.warc_commands.specs.Program.{SplitEnds}
use Rattle.warc_commands.proofs.ProgramLemmas.{all_written, part_written}
use Rattle.warc_commands.proofs.ReadLemmas.{each_split, four_times_at_most, opened, unread}
use Rattle.warc_commands.proofs.RunsLemmas.{refused}
use Rattle.warc_commands.proofs.WordLemmas.{bad_word, by_word}
use Rattle.warc_commands.proofs.console.Console.split.Goals as goal

pub returns-in-Err : goal.returns-in-Err
returns-in-Err g c = record {
  ends = bad_word SplitEnds _ c.in-Err.fault _ _ _ _ _ c.in-Err.ensures c.refuse_word.ensures.reported c.refuse_word.ensures.status;
  kept = refl;
  reads = four_times_at_most (unread _);
}

pub returns-in-Ok-split : goal.returns-in-Ok-split
returns-in-Ok-split g c = record {
  ends =
      by_word SplitEnds _ c.in-Ok.size _ _ _ c.in-Ok.ensures
      (inl (all_written c.in_ok-archive.ensures c.in-Ok-split.ensures.writes (ap (λ s. (g.S.Source.seen s).faults) c.into_source.ensures)));
  kept = ap (λ s. (g.S.Source.seen s).holds) c.into_source.ensures ∙ c.in-Ok-split.ensures.writes.reads.kept ∙ c.in_ok-archive.ensures.reads.kept;
  reads = each_split c.in_ok-archive.archive.rows (λ bytes is. is) c.in_ok-archive.ensures (ap (λ s. g.S.Source.seen s) c.into_source.ensures) c.in-Ok-split.ensures.writes.reads;
}

pub returns-in-Err-split : goal.returns-in-Err-split
returns-in-Err-split g c = record {
  ends =
      by_word SplitEnds _ c.in-Ok.size _ _ _ c.in-Ok.ensures
      (inr (inr (part_written c.in-Err-split.fault c.in_ok-archive.ensures c.in-Err-split.ensures.writes (ap (λ s. (g.S.Source.seen s).faults) c.into_source-in-Err-split.ensures) c.fail.ensures.reported c.fail.ensures.status)));
  kept = ap (λ s. (g.S.Source.seen s).holds) c.into_source-in-Err-split.ensures ∙ c.in-Err-split.ensures.writes.reads.kept ∙ c.in_ok-archive.ensures.reads.kept;
  reads = each_split c.in_ok-archive.archive.rows (λ bytes is. is) c.in_ok-archive.ensures (ap (λ s. g.S.Source.seen s) c.into_source-in-Err-split.ensures) c.in-Err-split.ensures.writes.reads;
}

pub returns-in_err-archive : goal.returns-in_err-archive
returns-in_err-archive g c =
    let e = err_from_is_err_and c.from_residual.result c.from_residual.ensures.1 in
    rw (e.1, e.2) (refused _ _ _ _ _ _ _ _ c.in_err-archive.ensures (λ new status is. by_word SplitEnds _ c.in-Ok.size _ new status c.in-Ok.ensures (inr (inl is))) (four_times_at_most (opened c.in_err-archive.ensures refl)))

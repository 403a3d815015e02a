use Rattle.std.proofs.Common.{inl, inr, ap, ◌∙◌}
use Rattle.warc_commands.proofs.ProgramLemmas.{all_written, part_written}
use Rattle.warc_commands.proofs.ReadLemmas.{each_read}
use Rattle.warc_commands.proofs.console.Console.write_anew.Goals as goal

pub returns-in-Ok : goal.returns-in-Ok
returns-in-Ok g c = record {
  ends = inl (all_written c.in_ok-archive.ensures c.in-Ok.ensures.writes (ap (λ s. (g.S.Source.seen s).faults) c.into_source.ensures));
  kept = ap (λ s. (g.S.Source.seen s).holds) c.into_source.ensures ∙ c.in-Ok.ensures.writes.reads.kept ∙ c.in_ok-archive.ensures.reads.kept;
  reads = each_read c.in_ok-archive.archive.rows (λ bytes is. is) c.in_ok-archive.ensures (ap (λ s. g.S.Source.seen s) c.into_source.ensures) c.args.form c.in-Ok.ensures.writes.reads;
}

pub returns-in-Err : goal.returns-in-Err
returns-in-Err g c = record {
  ends = inr (inr (part_written c.in-Err.fault c.in_ok-archive.ensures c.in-Err.ensures.writes (ap (λ s. (g.S.Source.seen s).faults) c.into_source-in-Err.ensures) c.fail.ensures.reported c.fail.ensures.status));
  kept = ap (λ s. (g.S.Source.seen s).holds) c.into_source-in-Err.ensures ∙ c.in-Err.ensures.writes.reads.kept ∙ c.in_ok-archive.ensures.reads.kept;
  reads = each_read c.in_ok-archive.archive.rows (λ bytes is. is) c.in_ok-archive.ensures (ap (λ s. g.S.Source.seen s) c.into_source-in-Err.ensures) c.args.form c.in-Err.ensures.writes.reads;
}

use Rattle.std.proofs.Common.{ap, ◌∙◌}
use Rattle.warc_commands.proofs.ChoiceLemmas.{select_by}
use Rattle.warc_commands.proofs.ReadLemmas.{some_read}
use Rattle.warc_commands.proofs.console.Console.select_alone.Goals as goal

pub returns : goal.returns
returns g c = record {
  ends = select_by c.in_ok-archive.ensures (ap (λ s. g.S.Source.seen s) c.into_source.ensures) c.write_named-status.ensures.ends;
  kept = ap (λ s. (g.S.Source.seen s).holds) c.into_source.ensures ∙ c.write_named-status.ensures.reads.reads.kept ∙ c.in_ok-archive.ensures.reads.kept;
  reads = some_read c.in_ok-archive.archive.rows (λ bytes is. is) c.in_ok-archive.ensures (ap (λ s. g.S.Source.seen s) c.into_source.ensures) c.write_named-status.ensures.reads;
}

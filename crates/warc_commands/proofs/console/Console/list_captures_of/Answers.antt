use Rattle.std.proofs.Common.{ap, ◌∙◌}
use Rattle.warc_commands.proofs.CaptureLemmas.{captures_end}
use Rattle.warc_commands.proofs.ReadLemmas.{listed_near}
use Rattle.warc_commands.proofs.console.Console.list_captures_of.Goals as goal

pub returns : goal.returns
returns g c = record {
  ends =
      captures_end _ _ _ c.write_of-answer.result _ _ _ _ _ _ _ _ _ c.in_ok-archive.ensures c.write_of-answer.ensures
      (ap (λ s. (g.S.Source.seen s).faults) c.into_source.ensures) c.report_count.ensures;
  kept = ap (λ s. (g.S.Source.seen s).holds) c.into_source.ensures ∙ c.write_of-answer.ensures.keeps.kept ∙ c.in_ok-archive.ensures.reads.kept;
  reads = listed_near c.in_ok-archive.ensures (ap (λ s. g.S.Source.seen s) c.into_source.ensures) (λ bytes is. is.listed.short) c.write_of-answer.ensures.inside;
}

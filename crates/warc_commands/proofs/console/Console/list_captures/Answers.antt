use Rattle.std.proofs.Common.{None, ap, ◌∙◌}
use Rattle.warc_commands.proofs.CaptureLemmas.{captures_end}
use Rattle.warc_commands.proofs.ReadLemmas.{listed_near}
use Rattle.warc_commands.proofs.console.Console.list_captures.Goals as goal

pub returns : goal.returns
returns g c = record {
  ends =
      captures_end None _ _ c.write_all-answer.result _ _ _ _ _ _ _ _ _ c.in_ok-captures.ensures c.write_all-answer.ensures
      (ap (λ s. (g.S.Source.seen s).faults) c.into_source.ensures) c.report_count.ensures;
  kept = ap (λ s. (g.S.Source.seen s).holds) c.into_source.ensures ∙ c.write_all-answer.ensures.keeps.kept ∙ c.in_ok-captures.ensures.reads.kept;
  reads = listed_near c.in_ok-captures.ensures (ap (λ s. g.S.Source.seen s) c.into_source.ensures) (λ bytes is. is.indexed.listed.short) c.write_all-answer.ensures.inside;
}

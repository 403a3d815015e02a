use Rattle.std.proofs.Common.{ap, ◌∙◌}
use Rattle.warc_reading.proofs.IndexedLemmas.{opens_with}
use Rattle.warc_lookup.specs.Indexed.{IsIndexed}
use Rattle.warc_commands.proofs.PayloadLemmas.{payloads_end}
use Rattle.warc_commands.proofs.ReadLemmas.{replay_near}
use Rattle.warc_commands.proofs.console.Console.payloads.Goals as goal

pub returns : goal.returns
returns g c = record {
  ends =
      payloads_end _ _ c.judge-judged.result _ _ _ _ _ _ _ _ _ c.in_ok-archive.ensures c.judge-judged.ensures.judges c.judge-judged.ensures.unchanged.0
      (ap (λ s. (g.S.Source.seen s).faults) c.into_source.ensures) c.report_payloads-status.ensures;
  kept = ap (λ s. (g.S.Source.seen s).holds) c.into_source.ensures ∙ c.judge-judged.ensures.judges.keeps.kept ∙ c.in_ok-archive.ensures.reads.kept;
  reads =
      let a = c.in_ok-archive.archive in
      replay_near (opens_with {Gives = IsIndexed} a a.archive (λ bytes is. is.indexed) c.in_ok-archive.ensures)
      (ap (λ s. g.S.Source.seen s) c.into_source.ensures) c.judge-judged.ensures.judges.inside;
}

use Rattle.std.proofs.Common.{ap, ◌∙◌}
use Rattle.warc_commands.proofs.ClosedLemmas.{closed_by, holds_indexed}
use Rattle.warc_commands.proofs.ReadLemmas.{closed_read}
use Rattle.warc_commands.proofs.console.Console.select_closed.Goals as goal

pub returns : goal.returns
returns g c = record {
  ends = closed_by c.in_ok-archive.ensures (ap (λ s. g.S.Source.seen s) c.into_source.ensures) (c.write_closed-status.ensures.ends (holds_indexed c.in_ok-archive.ensures));
  kept = ap (λ s. (g.S.Source.seen s).holds) c.into_source.ensures ∙ c.write_closed-status.ensures.reads.some.reads.kept ∙ c.write_closed-status.ensures.reads.heads.kept ∙ c.in_ok-archive.ensures.reads.kept;
  reads = closed_read c.in_ok-archive.archive.listing.rows (λ bytes is. is.listed) c.in_ok-archive.ensures (ap (λ s. g.S.Source.seen s) c.into_source.ensures) c.write_closed-status.ensures.reads;
}

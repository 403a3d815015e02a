use Rattle.std.proofs.Common.{◌∙◌}
use Rattle.warc_order.proofs.EntryLemmas.{length_seen}
use Rattle.warc_order.proofs.entries.Entries.len.Goals as goal

pub returns : goal.returns
returns g c = c.len.ensures ∙ (c.self.inside.ends.ok.0 ∙ length_seen _ _ c.self.invariant c.self.view_is)

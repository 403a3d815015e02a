use Rattle.std.proofs.Common.{ap, ◌∙◌, length}
use Rattle.warc_order.specs.Layout.{Parts}
use Rattle.warc_order.proofs.EntryLemmas.{held, length-concat}
use Rattle.warc_order.proofs.entries.Entries.kept.Goals as goal

pub returns : goal.returns
returns g c =
    c.len.ensures ∙ (c.self.inside.bytes.ok.0
    ∙ (ap (λ (p : Parts). length p.bytes) (held _ _ c.self.invariant c.self.view_is)
    ∙ length-concat c.args.self.now))

use Rattle.std.proofs.Common.{◌∙◌, ap}
use Rattle.std.specs.List.{sum_by}
use Rattle.warc_index.specs.Links.{link_bytes}
use Rattle.warc_index.proofs.LinkLemmas.{bytes_links}
use Rattle.warc_index.proofs.link.Links.kept.Goals as goal

pub returns : goal.returns
returns g c =
    c.kept.ensures ∙ (bytes_links _ _ _ c.self.invariant.as_many_middles c.self.invariant.as_many_entries
    ∙ ap (sum_by link_bytes) c.self.view_is)

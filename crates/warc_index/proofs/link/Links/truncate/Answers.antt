use Rattle.std.proofs.Common.{◌∙◌, ap, take}
use Rattle.warc_order.specs.Columns.{values}
use Rattle.warc_index.specs.Links.{at_start}
use Rattle.warc_index.proofs.LinkLemmas.{links_take}
use Rattle.warc_index.proofs.link.Links.truncate.Goals as goal

pub returns : goal.returns
returns g c =
    rw (c.truncate.ensures.items, c.truncate-2.ensures at_start, c.truncate-3.ensures) (links_take c.args.count
    c.self.inside.roles.items (values at_start c.self.inside.middles) c.self.inside.texts
    ∙ ap (take c.args.count) c.self.view_is)

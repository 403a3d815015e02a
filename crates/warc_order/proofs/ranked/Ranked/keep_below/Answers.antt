use Rattle.std.proofs.Common.{ap, ◌∙◌, filter}
use Rattle.std.specs.Prelude.{nat_lt}
use Rattle.warc_order.specs.Ranking.{flattened, lists_of}
use Rattle.warc_order.proofs.BlockLemmas.{flattened-filter}
use Rattle.warc_order.proofs.ranked.Ranked.keep_below.Goals as goal

pub returns : goal.returns
returns g c =
    c.drop_empty.ensures.list
    ∙ (ap flattened c.keep_all_below.ensures.lists
    ∙ (flattened-filter (λ e. nat_lt e.index c.args.count) (lists_of c.self.inside.blocks.items)
    ∙ ap (λ v. filter (λ e. nat_lt e.index c.args.count) v.list) c.self.view_is))

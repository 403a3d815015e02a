use Rattle.std.proofs.Common.{sym, ◌∙◌}
use Rattle.warc_order.specs.Ranking.{flattened, lists_of}
use Rattle.warc_order.proofs.RankLemmas.{find-end}
use Rattle.warc_order.proofs.ranked.first_in.Goals as goal

pub returns : goal.returns
returns g c =
    c.next_slot.ensures
    ∙ sym (find-end (g.T.SlotTest.passes c.args.test.now) (flattened (lists_of c.args.blocks.now)) _
    c.find_place-place.ensures.point)

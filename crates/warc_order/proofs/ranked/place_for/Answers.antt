use Rattle.std.proofs.Common.{arith, ◌≡◌, length}
use Rattle.std.proofs.lemmas.List.{length-map}
use Rattle.warc_order.specs.Ranking.{flattened, lists_of}
use Rattle.warc_order.proofs.BlockLemmas.{place_within}
use Rattle.warc_order.proofs.RankLemmas.{placed-end, ranked_ends}
use Rattle.warc_order.proofs.ranked.place_for.Goals as goal

pub find_place-requires-clause-order : goal.find_place-requires-clause-order
find_place-requires-clause-order g c = ranked_ends (g.O.SlotOrder.compare c.args.order.now) (flattened (lists_of
    c.args.blocks.now)) c.args.slot (g.met.O.SlotOrder.total c.args.order.now) c.requires.ranked

pub returns-clause-place : goal.returns-clause-place
returns-clause-place g c =
    let n : length (lists_of c.args.blocks.now) ≡ length c.args.blocks.now = length-map _ _ in
    placed-end (g.O.SlotOrder.compare c.args.order.now) (flattened (lists_of c.args.blocks.now)) c.args.slot _
    (place_within (lists_of c.args.blocks.now) c.find_place.result.block c.find_place.result.offset (omega (arith, n))
    c.find_place.ensures.within)
    c.find_place.ensures.point

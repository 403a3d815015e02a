use Rattle.std.proofs.Common.{◌≡◌, ◌+◌, arith, length, sym, ◌∙◌, None}
use Rattle.std.proofs.lemmas.List.{length-map}
use Rattle.warc_order.specs.Ranking.{flattened, lists_of, start_of}
use Rattle.warc_order.proofs.BlockLemmas.{place_within}
use Rattle.warc_order.proofs.RankLemmas.{last_from-end}
use Rattle.warc_order.proofs.StepLemmas.{before_is}
use Rattle.warc_order.proofs.ranked.last_in.Goals as goal

pub returns : goal.returns
returns g c =
    let n : length (lists_of c.args.blocks.now) ≡ length c.args.blocks.now = length-map _ _ in
    c.slot_before.ensures
    ∙ sym (last_from-end (g.T.SlotTest.passes c.args.test.now) None (flattened (lists_of c.args.blocks.now))
    (start_of (lists_of c.args.blocks.now) c.find_place-place.result.block + c.find_place-place.result.offset)
    (place_within (lists_of c.args.blocks.now) c.find_place-place.result.block c.find_place-place.result.offset (omega
    (arith, n)) c.find_place-place.ensures.within)
    c.find_place-place.ensures.point
    ∙ before_is (flattened (lists_of c.args.blocks.now)) (start_of (lists_of c.args.blocks.now)
    c.find_place-place.result.block + c.find_place-place.result.offset))

use Rattle.std.proofs.Common.{◌≡◌, ◌<◌, length, map, refl, sym, ap, ◌∙◌, arith}
use Rattle.std.specs.List.{list_all, range_with_len}
use Rattle.warc_write.specs.Splitting.{segment_count, has_room, segment_of}
use Rattle.warc_write.proofs.CutLemmas.{fit_more, room_of_part, zeros_fit}
use Rattle.warc_write.proofs.SegmentLemmas.{one_without_room}
use Rattle.warc_write.proofs.cuts.all_fit.Goals as goal

pub returns-then-not-branch : goal.returns-then-not-branch
returns-then-not-branch g c = λ r is_bad has.
    let count : c.segment_count-at-end.result ≡ segment_count c.args.size (length r.block) =
    c.segment_count-at-end.ensures.count ∙ ap (segment_count c.args.size) (sym has.len_is) in
    let below : c.loop-at.at < segment_count c.args.size (length r.block) = omega (arith, c.loop-at-test.true, count) in
    let room = room_of_part r c.args.version c.args.fields.now c.args.len is_bad c.args.uuid.now c.args.size c.loop-at.at _ c.part_at-part.result c.in_ok-has_short_head.field-0
    has refl zeros_fit (c.part_at-part.ensures r.block has.len_is) c.in_ok-has_short_head.ensures in
    sym (one_without_room (segment_of r c.args.uuid.now c.args.size) _ c.loop-at.at below (room ∙ c.if-not-branch.true))

pub loop-at-preserved : goal.loop-at-preserved
loop-at-preserved g c = λ r is_bad has.
    let room = room_of_part r c.args.version c.args.fields.now c.args.len is_bad c.args.uuid.now c.args.size c.loop-at.at _ c.part_at-part.result c.in_ok-has_short_head.field-0
    has refl zeros_fit (c.part_at-part.ensures r.block has.len_is) c.in_ok-has_short_head.ensures in
    fit_more (segment_of r c.args.uuid.now c.args.size) c.loop-at.at (c.loop-at.invariant r is_bad has) (room ∙ c.if-not-branch.false)

pub returns : goal.returns
returns g c = λ r is_bad has.
    let count : c.segment_count-at-end.result ≡ segment_count c.args.size (length r.block) =
    c.segment_count-at-end.ensures.count ∙ ap (segment_count c.args.size) (sym has.len_is) in
    let all : c.loop-at.at ≡ segment_count c.args.size (length r.block) = omega (arith, c.loop-at-test.false, c.loop-at.auto.at-end, count) in
    sym (ap (λ k. list_all has_room (map (segment_of r c.args.uuid.now c.args.size) (range_with_len 0 k))) (sym all) ∙ c.loop-at.invariant r is_bad has)

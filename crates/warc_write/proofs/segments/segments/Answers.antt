use Rattle.std.proofs.Common.{◌≡◌, ◌<◌, [], ◌∷◌, ◌++◌, length, map, sym, ap, subst, ◌∙◌, arith}
use Rattle.std.specs.List.{list_all, range_with_len}
use Rattle.warc_write.specs.Splitting.{AllFramed, segment_count, has_room, segment_of, segments_of}
use Rattle.warc_write.proofs.SegmentLemmas.{framed_push, one_more, one_without_room, refuses_all}
use Rattle.warc_write.proofs.segments.segments.Goals as goal

pub loop-at-preserved : goal.loop-at-preserved
loop-at-preserved g c =
    let f = segment_of c.args.framed.now c.args.uuid.now c.args.size in
    let at = c.loop-at.at in
    record {
      made = c.in-Ok-push.ensures.items ∙ ap (λ l. l ++ c.in-Ok.next ∷ []) c.loop-at.invariant.made
          ∙ ap (λ s. map f (range_with_len 0 at) ++ s ∷ []) c.in-Ok.ensures.made ∙ one_more f at;
      framed = subst AllFramed (sym c.in-Ok-push.ensures.items)
          (framed_push c.loop-at.all.items c.in-Ok.next c.loop-at.invariant.framed c.in-Ok.ensures.framed);
    }

pub returns-in-Err-clause-long : goal.returns-in-Err-clause-long
returns-in-Err-clause-long g c =
    let block = c.args.framed.now.block in
    let count : c.segment_count-count.result ≡ segment_count c.args.size (length block) =
    c.segment_count-count.ensures.count ∙ ap (λ b. segment_count c.args.size (length b)) c.block.ensures.block in
    let test = c.loop-at-test.true in
    let below : c.loop-at.at < segment_count c.args.size (length block) = omega (arith, test, count) in
    refuses_all c.in-Err.fault _ (list_all has_room (segments_of c.args.framed.now c.args.uuid.now c.args.size))
    (one_without_room (segment_of c.args.framed.now c.args.uuid.now c.args.size) _ c.loop-at.at below) c.in-Err.ensures.long

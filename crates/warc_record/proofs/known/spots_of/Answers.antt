use Rattle.std.proofs.Common.{get_or, take, sym}
use Rattle.std.proofs.lemmas.List.{take_more, length-take-le}
use Rattle.warc_record.proofs.known.spots_of.Goals as goal

pub loop-place-preserved : goal.loop-place-preserved
loop-place-preserved g c = λ known.
    let pairs = c.as_slice-pairs.result.now in
    let field = get_or pairs c.loop-place.place c.index-pairs-place.result in
    rw (take_more pairs c.loop-place.place c.index-pairs-place.result c.loop-place-test.true) (
    c.add.ensures.spots (take c.loop-place.place pairs) field.1 (sym (length-take-le _ _ c.loop-place.auto.place-end)) c.loop-place.invariant known
    )

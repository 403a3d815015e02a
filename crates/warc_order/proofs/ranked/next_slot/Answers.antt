use Rattle.std.proofs.Common.{◌≡◌, ◌+◌, arith, length, sym, ap, ◌∙◌, Some}
use Rattle.std.proofs.lemmas.List.{length-map}
use Rattle.std.specs.List.{slice_get}
use Rattle.warc_order.specs.Ranking.{flattened, lists_of}
use Rattle.warc_order.proofs.BlockLemmas.{somes, some_at, next_at, none_at}
use Rattle.warc_order.proofs.ranked.next_slot.Goals as goal

pub slot_at-requires-then-place-blocks-clause-offset : goal.slot_at-requires-then-place-blocks-clause-offset
slot_at-requires-then-place-blocks-clause-offset g c = somes c.args.blocks.now c.requires.blocks
    (c.args.place.block + 1) c.if-place-blocks.true

pub returns-then-place-length_of : goal.returns-then-place-length_of
returns-then-place-length_of g c =
    let n : length (lists_of c.args.blocks.now) ≡ length c.args.blocks.now = length-map _ _ in
    ap Some c.slot_at.ensures
    ∙ sym (some_at (lists_of c.args.blocks.now) c.args.place.block c.args.place.offset (omega (arith, n)) (omega arith))

pub returns-then-place-blocks : goal.returns-then-place-blocks
returns-then-place-blocks g c =
    let n : length (lists_of c.args.blocks.now) ≡ length c.args.blocks.now = length-map _ _ in
    ap Some c.slot_at-then-place-blocks.ensures
    ∙ sym (ap (slice_get (flattened (lists_of c.args.blocks.now))) (next_at (lists_of c.args.blocks.now)
    c.args.place.block c.args.place.offset (omega (arith, n)) (omega arith))
    ∙ some_at (lists_of c.args.blocks.now) (c.args.place.block + 1) 0 (omega (arith, n)) (somes c.args.blocks.now
    c.requires.blocks (c.args.place.block + 1) c.if-place-blocks.true))

pub returns-else-place-blocks : goal.returns-else-place-blocks
returns-else-place-blocks g c =
    let n : length (lists_of c.args.blocks.now) ≡ length c.args.blocks.now = length-map _ _ in
    sym (none_at (lists_of c.args.blocks.now) c.args.place.block c.args.place.offset (omega (arith, n)) (omega (
      arith,
      n,
    )) (omega arith))

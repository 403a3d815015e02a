use Rattle.std.proofs.Common.{◌≡◌, ℕ, ◌+◌, ◌-◌, ◌<◌, arith, length, sym, ap, ◌∙◌, Some, suc, []}
use Rattle.std.proofs.lemmas.List.{length-map}
use Rattle.std.specs.List.{slice_index_or}
use Rattle.warc_order.specs.Ranking.{flattened, lists_of, start_of, before_in, blank}
use Rattle.warc_order.proofs.BlockLemmas.{somes, some_at}
use Rattle.warc_order.proofs.StepLemmas.{end_before}
use Rattle.warc_order.proofs.ranked.slot_before.Goals as goal

pub overflow_sub-offset : goal.overflow_sub-offset
overflow_sub-offset g c =
    let some : 0 < length (slice_index_or (lists_of c.args.blocks.now) (c.args.place.block - 1) []) =
    somes c.args.blocks.now c.requires.blocks (c.args.place.block - 1) (omega arith) in
    omega (arith, c.length_of-offset.ensures)

pub slot_at-requires-then-place-gt0-2-clause-offset : goal.slot_at-requires-then-place-gt0-2-clause-offset
slot_at-requires-then-place-gt0-2-clause-offset g c =
    let some : 0 < length (slice_index_or (lists_of c.args.blocks.now) (c.args.place.block - 1) []) =
    somes c.args.blocks.now c.requires.blocks (c.args.place.block - 1) (omega arith) in
    omega (arith, c.length_of-offset.ensures)

pub returns-then-place-gt0 : goal.returns-then-place-gt0
returns-then-place-gt0 g c =
    let n : length (lists_of c.args.blocks.now) ≡ length c.args.blocks.now = length-map _ _ in
    let b : ℕ = c.args.place.block in
    let o : ℕ = c.args.place.offset in
    let at : start_of (lists_of c.args.blocks.now) b + o ≡ suc (start_of (lists_of c.args.blocks.now) b + (o - 1)) =
    omega arith in
    ap Some c.slot_at.ensures
    ∙ sym (ap (before_in (flattened (lists_of c.args.blocks.now))) at
    ∙ some_at (lists_of c.args.blocks.now) b (o - 1) (omega (arith, n)) (omega arith))

pub returns-then-place-gt0-2 : goal.returns-then-place-gt0-2
returns-then-place-gt0-2 g c =
    let n : length (lists_of c.args.blocks.now) ≡ length c.args.blocks.now = length-map _ _ in
    let b : ℕ = c.args.place.block in
    let o : ℕ = c.args.place.offset in
    let some : 0 < length (slice_index_or (lists_of c.args.blocks.now) (b - 1) []) =
    somes c.args.blocks.now c.requires.blocks (b - 1) (omega arith) in
    let last : ℕ = length (slice_index_or (lists_of c.args.blocks.now) (b - 1) []) - 1 in
    let at : start_of (lists_of c.args.blocks.now) b + o ≡ suc (start_of (lists_of c.args.blocks.now) (b - 1) + last) =
    end_before (lists_of c.args.blocks.now) b o (omega arith) (omega (arith, n)) (omega arith) some in
    ap Some (c.slot_at-then-place-gt0-2.ensures ∙ ap (λ m. slice_index_or (slice_index_or (lists_of
    c.args.blocks.now) (b - 1) []) (m - 1) blank) c.length_of-offset.ensures)
    ∙ sym (ap (before_in (flattened (lists_of c.args.blocks.now))) at
    ∙ some_at (lists_of c.args.blocks.now) (b - 1) last (omega (arith, n)) (omega arith))

use Rattle.std.proofs.Common.{◌≡◌, ℕ, ◌+◌, ◌-◌, ◌++◌, length, sym, ap, ◌∙◌, arith, add-zero, Some}
use Rattle.warc_frame.proofs.StreamEnds.{none_in_front, found_after, first_in_piece, none_in_piece}
use Rattle.warc_frame.proofs.EmptyLineLemmas.{empty-len}
use Rattle.warc_frame.proofs.ends.find_end.Goals as goal

pub loop-place-init : goal.loop-place-init
loop-place-init c = rw add-zero (none_in_front c.args.kept.now c.args.piece.now c.requires.none)

pub returns-then-ends_at-clause-end : goal.returns-then-ends_at-clause-end
returns-then-ends_at-clause-end c =
    let n : ℕ = length c.args.kept.now in
    let i : ℕ = c.loop-place.place in
    (found_after (c.args.kept.now ++ c.args.piece.now) (n + i) c.loop-place.invariant (sym c.ends_at.ensures ∙ c.if-ends_at.true)).1
    ∙ ap Some (let e : n + i + 1 - 4 ≡ n + (i + 1) - 4 = omega arith in e)

pub returns-in_err-place-clause-end : goal.returns-in_err-place-clause-end
returns-in_err-place-clause-end c =
    rw c.from_residual.ensures
    (none_in_piece c.args.kept.now c.args.piece.now c.loop-place.place c.loop-place.invariant (omega arith) (sym c.find_empty_line.ensures.value ∙ c.in_err-place.was))

pub returns-clause-end : goal.returns-clause-end
returns-clause-end c =
    let found = sym c.find_empty_line.ensures.value ∙ c.in_ok-place.was in
    first_in_piece c.args.kept.now c.args.piece.now c.loop-place.place c.in_ok-place.place c.loop-place.invariant (omega arith) found (empty-len c.args.piece.now c.in_ok-place.place found)

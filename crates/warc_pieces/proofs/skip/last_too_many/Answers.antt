use Rattle.std.proofs.Common.{◌≡◌, ℕ, ◌+◌, ◌-◌, ◌/◌, ◌≤◌, ◌++◌, List, Some, arith, drop, length, subst, sym}
use Rattle.std.proofs.lemmas.List.{length-drop, length-take}
use Rattle.warc_frame.specs.Reading.{head_len}
use Rattle.warc_frame.proofs.TakeLemmas.{take-rest}
use Rattle.warc_pieces.specs.Skip.{HasTooMany}
use Rattle.warc_pieces.proofs.SkipLemmas.{end_room, head_rest, none_yet}
use Rattle.warc_pieces.proofs.ManyLemmas.{none_too_many}
use Rattle.warc_pieces.proofs.skip.last_too_many.Goals as goal

pub halving-init : goal.halving-init
halving-init g c =
    let room = end_room c.args.head.now c.requires.ends in
    record { order = omega (arith, room); within = omega arith; none = λ more. none_yet (c.args.head.now ++ more) 1 }

pub has_too_many-requires : goal.has_too_many-requires
has_too_many-requires g c =
    let head = c.args.head.now in
    let i = c.halving.invariant in
    let middle = c.halving.low + (c.halving.high - c.halving.low) / 2 in
    let line = middle + c.in-Some.place in
    let fits = c.in-Some.ensures.1.fits in
    let E : List ℕ → Type 0 = λ t. head_len t ≡ Some (length t) in
    record { ends = subst E (sym (take-rest line head)) (head_rest head line c.requires.ends (omega (arith, fits, i.within, length-take (c.halving.high - middle) (drop middle head), length-drop middle head))) }

pub halving-preserved-then-has_too_many : goal.halving-preserved-then-has_too_many
halving-preserved-then-has_too_many g c =
    let head = c.args.head.now in
    let i = c.halving.invariant in
    let middle = c.halving.low + (c.halving.high - c.halving.low) / 2 in
    let line = middle + c.in-Some.place in
    let fits = c.in-Some.ensures.1.fits in
    let room : line + 7 ≤ c.halving.high = omega (arith, fits, i.within, length-take (c.halving.high - middle) (drop middle head), length-drop middle head) in
    let T : List ℕ → Type 0 = λ t. HasTooMany c.args.kind t in
    let many = subst T (take-rest line head) (c.has_too_many.ensures c.if-has_too_many.true) in
    record {
      order = omega (arith, room);
      within = i.within;
      none = λ more. none_too_many head more line c.args.kind c.requires.ends (omega (arith, room, i.within)) many;
    }

use Rattle.std.proofs.Common.{◌≡◌, ◌+◌, map, take, set, sym, subst, ap, ◌∙◌, Some}
use Rattle.std.specs.List.{slice_get}
use Rattle.warc_field.specs.Area.{Pair}
use Rattle.warc_lent.specs.Buffers.{HoldsFront, KeepsAfter}
use Rattle.warc_lent.specs.Heads.{field_numbers}
use Rattle.warc_lent.proofs.BufferLemmas.{front_next, rest_next}
use Rattle.warc_lent.proofs.heads.put_lengths.Goals as goal

pub putting-preserved : goal.putting-preserved
putting-preserved g c =
    let i = c.putting.index in
    let all = c.args.fields.now in
    let field : Pair = (c.in-Some.field.0.now, c.in-Some.field.1.now) in
    let at : slice_get all i ≡ Some field = c.in-Some.ensures in
    let put = c.put_field.ensures ∙ ap (set c.putting.out i) c.field_numbers.ensures in
    record {
      front =
          subst (λ l. HoldsFront (map field_numbers (take (i + 1) all)) l) (sym put)
          (front_next field_numbers all c.putting.out i field at c.putting.invariant.front);
      rest =
          subst (λ l. KeepsAfter (i + 1) c.args.out.now l) (sym put)
          (rest_next c.args.out.now c.putting.out i (field_numbers field) c.putting.invariant.rest);
    }

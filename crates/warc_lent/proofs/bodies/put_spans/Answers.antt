use Rattle.std.proofs.Common.{◌≡◌, ◌+◌, map, take, sym, subst, ◌∙◌, Some}
use Rattle.std.specs.List.{slice_get}
use Rattle.warc_lent.specs.Bodies.{span_numbers}
use Rattle.warc_lent.specs.Buffers.{HoldsFront, KeepsAfter}
use Rattle.warc_lent.proofs.BufferLemmas.{front_next, rest_next}
use Rattle.warc_lent.proofs.bodies.put_spans.Goals as goal

pub putting-preserved : goal.putting-preserved
putting-preserved g c =
    let i = c.putting.index in
    let all = c.args.located.now.spans in
    let at : slice_get all i ≡ Some c.in-Some.span = sym c.span.ensures ∙ c.in-Some.is in
    record {
      front =
          subst (λ l. HoldsFront (map span_numbers (take (i + 1) all)) l) (sym c.put_span.ensures)
          (front_next span_numbers all c.putting.out i c.in-Some.span at c.putting.invariant.front);
      rest =
          subst (λ l. KeepsAfter (i + 1) c.args.out.now l) (sym c.put_span.ensures)
          (rest_next c.args.out.now c.putting.out i (span_numbers c.in-Some.span) c.putting.invariant.rest);
    }

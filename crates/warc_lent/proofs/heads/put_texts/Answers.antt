use Rattle.std.proofs.Common.{◌≡◌, length, take, subst, ap, ◌∙◌, Some}
use Rattle.std.specs.List.{flat_map, slice_get}
use Rattle.warc_field.specs.Area.{Pair}
use Rattle.warc_frame.specs.Count.{capped}
use Rattle.warc_lent.specs.Buffers.{HoldsFront, KeepsAfter}
use Rattle.warc_lent.specs.Heads.{pair_text}
use Rattle.warc_lent.proofs.BufferLemmas.{rest_further}
use Rattle.warc_lent.proofs.HeadLemmas.{texts_next}
use Rattle.warc_lent.proofs.heads.put_texts.Goals as goal

pub putting-preserved : goal.putting-preserved
putting-preserved g c =
    let i = c.putting.index in
    let all = c.args.fields.now in
    let field : Pair = (c.in-Some.field.0.now, c.in-Some.field.1.now) in
    let at : slice_get all i ≡ Some field = c.in-Some.ensures in
    let before = flat_map pair_text (take i all) in
    let next = texts_next pair_text all i field at in
    let out = c.put_pair-at.new.out in
    record {
      front =
          subst (λ l. HoldsFront l out) next
          (c.put_pair-at.ensures.front before c.putting.invariant.whole c.putting.invariant.front);
      rest =
          subst (λ l. KeepsAfter (length l) c.args.out.now out) next
          (rest_further before (pair_text field) c.args.out.now c.putting.out out c.putting.invariant.rest
          (c.put_pair-at.ensures.rest before c.putting.invariant.whole));
      whole = c.put_pair-at.ensures.end before c.putting.invariant.whole ∙ ap (λ l. capped (length l)) next;
    }

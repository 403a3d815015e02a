use Rattle.std.proofs.Common.{length, subst, ap, ◌∙◌}
use Rattle.std.specs.List.{flat_map}
use Rattle.warc_frame.specs.Count.{capped}
use Rattle.warc_lent.specs.Buffers.{HoldsFront}
use Rattle.warc_lent.specs.Rows.{row_texts}
use Rattle.warc_page.proofs.PutLemmas.{texts_next}
use Rattle.warc_page.proofs.front.put_texts.Goals as goal

pub putting-preserved : goal.putting-preserved
putting-preserved g c =
    let before = flat_map row_texts c.putting.yielded in
    let next = texts_next row_texts c.putting.yielded c.in-Some.row in
    record {
      front =
          subst (λ l. HoldsFront l c.put_row_texts-taken.new.out) next
          (c.put_row_texts-taken.ensures.front before c.putting.invariant.whole c.putting.invariant.front);
      whole = c.put_row_texts-taken.ensures.end before c.putting.invariant.whole ∙ ap (λ l. capped (length l)) next;
    }

use Rattle.std.proofs.Common.{length, subst, ap, ◌∙◌}
use Rattle.warc_lent.specs.Buffers.{HoldsFront}
use Rattle.warc_lent.proofs.selections.put_chosen.Goals as goal

pub returns-in-Ok-clause-chosen : goal.returns-in-Ok-clause-chosen
returns-in-Ok-clause-chosen g c = record {
  text = c.in-Ok.chosen.items;
  are = c.in-Ok.ensures.chosen;
  put = record {
    front = subst (λ l. HoldsFront l c.put_positions.new.out) c.as_slice.ensures.value c.put_positions.ensures.front;
    whole = c.put_positions.ensures.number ∙ ap length c.as_slice.ensures.value;
  };
}

use Rattle.std.proofs.Common.{length, subst, ap, ◌∙◌}
use Rattle.warc_rewrite.specs.Closure.{records_read}
use Rattle.warc_lent.specs.Buffers.{HoldsFront}
use Rattle.warc_lent.proofs.SelectionLemmas.{closed_of_named}
use Rattle.warc_lent.proofs.selections.put_closed.Goals as goal

pub returns-in-Ok-closure-clause-closed : goal.returns-in-Ok-closure-clause-closed
returns-in-Ok-closure-clause-closed g c = λ is. record {
  text = c.in-Ok-closure.closed.items;
  are =
      closed_of_named c.args.except c.count.result (records_read is.listed.are.records) c.args.positions.now c.in-Ok.named.items
      c.deref.result.now c.in-Ok-closure.closed.items c.deref.ensures.value c.in-Ok.ensures.named (c.in-Ok-closure.ensures.closed is);
  put = record {
    front = subst (λ l. HoldsFront l c.put_positions.new.out) c.as_slice.ensures.value c.put_positions.ensures.front;
    whole = c.put_positions.ensures.number ∙ ap length c.as_slice.ensures.value;
  };
}

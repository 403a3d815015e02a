use Rattle.std.proofs.Common.{length, subst, ap, ◌∙◌}
use Rattle.warc_lent.specs.Buffers.{HoldsFront}
use Rattle.warc_lent.proofs.captures.put_captures.Goals as goal

pub returns-in-Ok-clause-captures : goal.returns-in-Ok-clause-captures
returns-in-Ok-clause-captures g c = λ bytes is. record {
  positions = c.in-Ok.positions.items;
  are = c.in-Ok.ensures bytes is;
  front = subst (λ l. HoldsFront l c.put_positions.new.out) c.as_slice.ensures.value c.put_positions.ensures.front;
  number_is = c.put_positions.ensures.number ∙ ap length c.as_slice.ensures.value;
}

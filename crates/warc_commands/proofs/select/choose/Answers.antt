use Rattle.std.proofs.Common.{List, ℕ, length, sym, subst}
use Rattle.warc_rewrite.specs.Selecting.{ArePositions}
use Rattle.warc_commands.proofs.ChoiceLemmas.{in_order, wants_others, wants_the_named}
use Rattle.warc_commands.proofs.select.choose.Goals as goal

pub others-requires : goal.others-requires
others-requires g c = record {
  ascending =
      let P : List ℕ → Type 0 = λ l. ArePositions (length c.args.archive.now.rows) l in
      subst P (sym c.deref.ensures.value) (in_order _ c.args.named.items _ c.put_in_order.ensures.ascending c.put_in_order.ensures.same c.requires);
}

pub returns-then-except : goal.returns-then-except
returns-then-except g c = wants_others _ _ c.args.named.items c.put_in_order.new.positions.items _ _ c.if-except.true c.put_in_order.ensures.same c.deref.ensures.value c.in_ok-others.ensures

pub returns : goal.returns
returns g c = wants_the_named _ _ c.args.named.items _ c.if-except.false c.put_in_order.ensures.ascending c.put_in_order.ensures.same c.requires

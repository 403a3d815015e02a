use Rattle.std.proofs.Common.{ℕ, List, length, inl, sym, subst}
use Rattle.warc_commands.specs.Selected.{AreWanted}
use Rattle.warc_commands.proofs.ChoiceLemmas.{there_by}
use Rattle.warc_commands.proofs.console.Console.write_named.Goals as goal

pub choose-requires : goal.choose-requires
choose-requires g c = there_by c.args.named.items c.deref.result.now c.count.result _ c.first_absent.result c.deref.ensures.value c.count.ensures c.first_absent.ensures c.in_default.is

pub returns-in-Ok-clause-ends : goal.returns-in-Ok-clause-ends
returns-in-Ok-clause-ends g c = inl (record {
  there = there_by c.args.named.items c.deref.result.now c.count.result _ c.first_absent.result c.deref.ensures.value c.count.ensures c.first_absent.ensures c.in_default.is;
  chosen = c.deref-in-Ok.result.now;
  are =
      let P : List ℕ → Type 0 = λ l. AreWanted c.args.except (length c.args.archive.now.rows) c.args.named.items l in
      subst P (sym c.deref-in-Ok.ensures.value) c.in-Ok.ensures;
  ends = c.send.ensures.ends;
})

use Rattle.std.proofs.Common.{ℕ, List, length, inl, sym, subst}
use Rattle.warc_rewrite.specs.Selecting.{ArePositions}
use Rattle.warc_commands.specs.Selected.{AreTheNamed}
use Rattle.warc_commands.proofs.ChoiceLemmas.{in_order, the_named, there_by}
use Rattle.warc_commands.proofs.ClosedLemmas.{reads_nothing}
use Rattle.warc_commands.proofs.console.Console.write_closed.Goals as goal

pub close_and_send-requires : goal.close_and_send-requires
close_and_send-requires g c =
    let there = there_by c.args.named.items c.deref.result.now c.count.result (length c.args.archive.now.listing.rows) c.first_absent.result c.deref.ensures.value c.count.ensures c.first_absent.ensures c.in_default.is in
    let P : List ℕ → Type 0 = λ l. ArePositions (length c.args.archive.now.listing.rows) l in
    subst P (sym c.deref-2.ensures.value) (in_order (length c.args.archive.now.listing.rows) c.args.named.items _ c.put_in_order.ensures.ascending c.put_in_order.ensures.same there)

pub returns-clause-ends : goal.returns-clause-ends
returns-clause-ends g c = λ indexed.
    let there = there_by c.args.named.items c.deref.result.now c.count.result (length c.args.archive.now.listing.rows) c.first_absent.result c.deref.ensures.value c.count.ensures c.first_absent.ensures c.in_default.is in
    inl (record {
      there = there;
      once = c.deref-2.result.now;
      once_are = (let P : List ℕ → Type 0 = λ l. AreTheNamed (length c.args.archive.now.listing.rows) c.args.named.items l in subst P (sym c.deref-2.ensures.value) (the_named (length c.args.archive.now.listing.rows) c.args.named.items _ c.put_in_order.ensures.ascending c.put_in_order.ensures.same there));
      ends = c.close_and_send.ensures.ends indexed;
    })

pub returns-in-Some-clause-reads : goal.returns-in-Some-clause-reads
returns-in-Some-clause-reads g c = reads_nothing _ _

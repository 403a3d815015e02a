use Rattle.std.proofs.Common.{◌∙◌, ap, sym, subst, refl, inl, length, arith}
use Rattle.std.proofs.lemmas.List.{length-take-le}
use Rattle.warc_index.specs.Orders.{IsIndexOf, IsBelow}
use Rattle.warc_index.proofs.KeptLemmas.{kept_fewer, below_kept}
use Rattle.warc_index.proofs.index.RecordIndex.truncate.Goals as goal

pub invariant_of-self : goal.invariant_of-self
invariant_of-self g c = record {
  ids = subst (IsBelow c.args.count) (sym c.truncate_all.ensures.ids) (below_kept (g.O.HasEntries.entries c.self.inside.by_id) c.args.count);
  captures = subst (IsBelow c.args.count) (sym c.truncate_all.ensures.captures) (below_kept (g.O.HasEntries.entries c.self.inside.by_target) c.args.count);
  links = ap length c.truncate_all.ensures.links ∙ length-take-le c.args.count c.self.inside.links (omega (
    arith,
    c.self.invariant.links,
  ));
  places = λ all is. inl c.clear.ensures.items;
}

pub returns-then-count-self : goal.returns-then-count-self
returns-then-count-self g c all kept =
    kept_fewer all (record {
      count = c.self.inside.count;
      ids = g.O.HasEntries.entries c.self.inside.by_id;
      captures = g.O.HasEntries.entries c.self.inside.by_target;
      links = c.self.inside.links;
    }) _
    c.args.count c.if-count-self.true (subst (IsIndexOf all) (sym c.self.view_is) kept) refl c.truncate_all.ensures.ids
    c.truncate_all.ensures.captures c.truncate_all.ensures.links

use Rattle.std.proofs.Common.{◌++◌, ◌∷◌, [], ◌∙◌, ap, sym, subst}
use Rattle.std.specs.Option.{option_to_list}
use Rattle.warc_index.specs.Orders.{IsIndexOf}
use Rattle.warc_index.proofs.KeptLemmas.{kept_more}
use Rattle.warc_index.proofs.index.RecordIndex.put.Goals as goal

pub returns-clause-ok : goal.returns-clause-ok
returns-clause-ok g c = λ all r kept is.
    kept_more all (record {
      count = c.self.inside.count;
      ids = g.O.HasEntries.entries c.self.inside.by_id;
      captures = g.O.HasEntries.entries c.self.inside.by_target;
      links = c.self.inside.links;
    }) (record {
      count = c.in-Some.count;
      ids = g.O.HasEntries.entries c.add_record.new.by_id;
      captures = g.O.HasEntries.entries c.add_record.new.by_target;
      links = c.add_record.new.links;
    })
    r is.timed (subst (IsIndexOf all) (sym c.self.view_is) kept) c.in-Some.ensures.1
    (c.in_ok-add_record.ensures.ids
    ∙ ap (λ e. g.O.HasEntries.entries c.self.inside.by_id ++ option_to_list e) (sym (is.id c.self.inside.count)))
    (c.in_ok-add_record.ensures.captures
    ∙ ap (λ e. g.O.HasEntries.entries c.self.inside.by_target ++ option_to_list e) (sym (is.capture c.self.inside.count)))
    (c.in_ok-add_record.ensures.links ∙ ap (λ l. c.self.inside.links ++ l ∷ []) is.link)

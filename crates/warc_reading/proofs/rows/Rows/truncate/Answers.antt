use Rattle.std.proofs.Common.{◌≡◌, Some, length, take, refl, ap, sym, ◌∙◌}
use Rattle.std.specs.List.{slice_get}
use Rattle.std.proofs.lemmas.Option.{slice_get_read}
use Rattle.warc_reading.proofs.RowLemmas.{cut_kept}
use Rattle.warc_reading.proofs.rows.Rows.truncate.Goals as goal

pub invariant_of-self : goal.invariant_of-self
invariant_of-self g c =
    let (some, here, past, (low, each), more) = c.in-Some.ensures.lookup in
    let found : slice_get c.deref.result.now c.args.count ≡ Some c.in-Some.entry.now = slice_get_read c.deref.result.now (length c.deref.result.now) c.args.count c.in-Some.entry.now refl low here in
    let is : slice_get c.self.inside.entries.items c.args.count ≡ Some c.in-Some.entry.now = ap (λ xs. slice_get xs c.args.count) (sym c.deref.ensures.value) ∙ found in
    (cut_kept _ _ _ _ _ _ is c.self.invariant (c.truncate.ensures.items ∙ ap (λ n. take n c.self.inside.texts.items) c.value-end.ensures) c.truncate-in-Some.ensures.items).0

pub returns-in-Some : goal.returns-in-Some
returns-in-Some g c =
    let (some, here, past, (low, each), more) = c.in-Some.ensures.lookup in
    let found : slice_get c.deref.result.now c.args.count ≡ Some c.in-Some.entry.now = slice_get_read c.deref.result.now (length c.deref.result.now) c.args.count c.in-Some.entry.now refl low here in
    let is : slice_get c.self.inside.entries.items c.args.count ≡ Some c.in-Some.entry.now = ap (λ xs. slice_get xs c.args.count) (sym c.deref.ensures.value) ∙ found in
    (cut_kept _ _ _ _ _ _ is c.self.invariant (c.truncate.ensures.items ∙ ap (λ n. take n c.self.inside.texts.items) c.value-end.ensures) c.truncate-in-Some.ensures.items).1 ∙ ap (take c.args.count) c.self.view_is

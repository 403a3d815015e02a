use Rattle.std.proofs.Common.{◌≡◌, ◌∙◌, ap, sym, subst, Some, min}
use Rattle.warc_order.specs.Entries.{Entry, entry_at, IsFirst, IsNone, IsFrom}
use Rattle.warc_index.specs.Orders.{entries_from, id_entry}
use Rattle.warc_index.proofs.KeptLemmas.{least_of_both, first_alone, none_with}
use Rattle.warc_index.proofs.index.RecordIndex+Order+A+A.first_with.Goals as goal

pub returns-in-Some-first_from : goal.returns-in-Some-first_from
returns-in-Some-first_from g c all kept =
    let held : c.self.inside.by_id ≡ entries_from id_entry 0 all = ap (λ v. v.ids) c.self.view_is ∙ kept.ids in
    let e : Entry = entry_at c.self.inside.by_id c.in-Some.first.index in
    let f : Entry = entry_at c.self.inside.by_id c.in-Some-first_from.other.index in
    let a : IsFirst (entries_from id_entry 0 all) (IsFrom c.args.key.now (record { major = 0; minor = 0 })) e =
    subst (λ es. IsFirst es (IsFrom c.args.key.now (record { major = 0; minor = 0 })) e) held
    (subst (λ key. IsFirst c.self.inside.by_id (IsFrom key (record {
      major = 0;
      minor =
          0;
    })) e) c.bytes.ensures c.in-Some.ensures.some) in
    let b : IsFirst (entries_from id_entry 0 all) (IsFrom c.args.key.now (record { major = 1; minor = 0 })) f =
    subst (λ es. IsFirst es (IsFrom c.args.key.now (record { major = 1; minor = 0 })) f) held
    (subst (λ key. IsFirst c.self.inside.by_id (IsFrom key (record {
      major = 1;
      minor =
          0;
    })) f) c.bytes-in-Some.ensures c.in-Some-first_from.ensures.some) in
    ap Some (c.min.ensures ∙ (ap (λ n. min n c.position-in-Some-first_from.result) c.position.ensures
    ∙ ap (λ n. min e.position n) c.position-in-Some-first_from.ensures))
    ∙ sym (least_of_both all c.args.key.now e f a b)

pub returns-in-None-first_from : goal.returns-in-None-first_from
returns-in-None-first_from g c all kept =
    let held : c.self.inside.by_id ≡ entries_from id_entry 0 all = ap (λ v. v.ids) c.self.view_is ∙ kept.ids in
    let e : Entry = entry_at c.self.inside.by_id c.in-Some.first.index in
    let a : IsFirst (entries_from id_entry 0 all) (IsFrom c.args.key.now (record { major = 0; minor = 0 })) e =
    subst (λ es. IsFirst es (IsFrom c.args.key.now (record { major = 0; minor = 0 })) e) held
    (subst (λ key. IsFirst c.self.inside.by_id (IsFrom key (record {
      major = 0;
      minor =
          0;
    })) e) c.bytes.ensures c.in-Some.ensures.some) in
    ap Some c.position-in-None-first_from.ensures
    ∙ sym (first_alone all c.args.key.now e a (subst (λ es. IsNone es (IsFrom c.args.key.now (record {
      major =
          1;
      minor = 0;
    }))) held
    (subst (λ key. IsNone c.self.inside.by_id (IsFrom key (record {
      major = 1;
      minor =
          0;
    }))) c.bytes-in-Some.ensures c.in-None-first_from.ensures.none)))

pub returns-in-None : goal.returns-in-None
returns-in-None g c all kept =
    let held : c.self.inside.by_id ≡ entries_from id_entry 0 all = ap (λ v. v.ids) c.self.view_is ∙ kept.ids in
    sym (none_with all c.args.key.now (subst (λ es. IsNone es (IsFrom c.args.key.now (record {
      major = 0;
      minor =
          0;
    }))) held
    (subst (λ key. IsNone c.self.inside.by_id (IsFrom key (record {
      major = 0;
      minor =
          0;
    }))) c.bytes.ensures c.in-None.ensures.none)))

use Rattle.std.proofs.Common.{◌≡◌, ◌∙◌, ap, sym, subst}
use Rattle.warc_order.specs.Entries.{Entry, entry_at, IsLast, IsFirst, IsNone, IsUpTo, IsFrom}
use Rattle.warc_index.specs.Captures.{IsChosen}
use Rattle.warc_index.specs.Linked.{instant_mark}
use Rattle.warc_index.specs.Orders.{entries_from, capture_entry}
use Rattle.warc_index.proofs.ChoiceLemmas.{chosen_is_latest}
use Rattle.warc_index.proofs.KeptLemmas.{chosen, no_capture, some_capture, none_early}
use Rattle.warc_index.proofs.index.RecordIndex+Order+A+A.latest.Goals as goal

pub returns-in-Some : goal.returns-in-Some
returns-in-Some g c all kept =
    let held : c.self.inside.by_target ≡ entries_from capture_entry 0 all = ap (λ v. v.captures) c.self.view_is
    ∙ kept.captures in
    let e : Entry = entry_at c.self.inside.by_target c.in-Some.found.index in
    let last : IsLast (entries_from capture_entry 0 all) (IsUpTo c.args.target.now (instant_mark c.args.moment.now)) e =
    subst (λ es. IsLast es (IsUpTo c.args.target.now (instant_mark c.args.moment.now)) e) held
    (subst (λ m. IsLast c.self.inside.by_target (IsUpTo c.args.target.now m) e) c.mark_at.ensures
    c.in-Some.ensures.some) in
    sym (((chosen_is_latest all c.args.target.now c.args.moment.now).0 c.position.result).1
    (subst (IsChosen all c.args.target.now c.args.moment.now) (sym c.position.ensures) (chosen all c.args.target.now
    c.args.moment.now e kept.timed last)))

pub returns-in-Some-first_from : goal.returns-in-Some-first_from
returns-in-Some-first_from g c all kept =
    let held : c.self.inside.by_target ≡ entries_from capture_entry 0 all = ap (λ v. v.captures) c.self.view_is
    ∙ kept.captures in
    let e : Entry = entry_at c.self.inside.by_target c.in-Some-first_from.field-0.index in
    let none : IsNone (entries_from capture_entry 0 all) (IsUpTo c.args.target.now (instant_mark c.args.moment.now)) =
    subst (λ es. IsNone es (IsUpTo c.args.target.now (instant_mark c.args.moment.now))) held
    (subst (λ m. IsNone c.self.inside.by_target (IsUpTo c.args.target.now m)) c.mark_at.ensures c.in-None.ensures.none)
    in
    sym ((chosen_is_latest all c.args.target.now c.args.moment.now).2.1 (
      some_capture all c.args.target.now _ e (subst (λ es. IsFirst es (IsFrom c.args.target.now (record {
        major =
            0;
        minor = 0;
      })) e) held c.in-Some-first_from.ensures.some),
      none_early all c.args.target.now c.args.moment.now kept.timed none,
    ))

pub returns-in-None-first_from : goal.returns-in-None-first_from
returns-in-None-first_from g c all kept =
    let held : c.self.inside.by_target ≡ entries_from capture_entry 0 all = ap (λ v. v.captures) c.self.view_is
    ∙ kept.captures in
    sym ((chosen_is_latest all c.args.target.now c.args.moment.now).1.1
    (no_capture all c.args.target.now kept.timed (subst (λ es. IsNone es (IsFrom c.args.target.now (record {
      major =
          0;
      minor = 0;
    }))) held c.in-None-first_from.ensures.none)))

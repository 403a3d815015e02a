use Rattle.std.proofs.Common.{◌++◌, ◌∙◌, Some, is_some, Result, Ok, Err, refl, sym, ap}
use Rattle.std.proofs.lemmas.List.{append-nil}
use Rattle.std.specs.Prelude.{OnErr}
use Rattle.std.specs.Option.{option_to_list}
use Rattle.warc_segment.specs.Held.{side_by_side}
use Rattle.warc_segment.proofs.HeldLemmas.{held_added, side_added}
use Rattle.warc_segment.proofs.held.put.Goals as goal

on_err : {T E P : Type 0} (r : Result T E) → P → OnErr r P
on_err (Ok x) p = tt
on_err (Err e) p = p

pub returns-in_default-clause-ok : goal.returns-in_default-clause-ok
returns-in_default-clause-ok g c =
    let held = side_by_side c.args.order.now c.args.facts.now.items in
    sym (ap (λ kept. held ++ option_to_list kept) (c.in_default.ensures.kept c.args.position c.args.start c.args.len)
    ∙ append-nil held)

pub returns-in_err-reserve-clause-needed : goal.returns-in_err-reserve-clause-needed
returns-in_err-reserve-clause-needed g c =
    on_err c.from_residual.result (ap is_some (c.in-Some.ensures.kept c.args.position c.args.start c.args.len))

pub returns-in_err-add-clause-needed : goal.returns-in_err-add-clause-needed
returns-in_err-add-clause-needed g c =
    on_err c.from_residual-in_err-add.result (ap is_some (c.in-Some.ensures.kept c.args.position c.args.start c.args.len))

pub returns-clause-held : goal.returns-clause-held
returns-clause-held g c =
    held_added c.args.position c.args.order.now c.add.new.self c.args.facts.now.items c.reserve.new.self.items
    c.push_reserved.new.self.items _ _ c.requires c.in_ok-add.ensures.ok c.push_reserved.ensures.items
    c.reserve.ensures.items refl refl c.in-Some.ensures.numbered

pub returns-clause-ok : goal.returns-clause-ok
returns-clause-ok g c =
    side_added c.args.order.now c.add.new.self c.args.facts.now.items c.reserve.new.self.items
    c.push_reserved.new.self.items _ _ c.requires.same c.in_ok-add.ensures.ok c.push_reserved.ensures.items
    c.reserve.ensures.items _ (c.in-Some.ensures.kept c.args.position c.args.start c.args.len
    ∙ ap (λ place. Some (record {
      origin = c.in-Some.member.origin.now;
      position = c.args.position;
      number = c.in-Some.member.number;
      total = c.args.typed.now.segment.total;
      place = place;
    })) (sym c.place_of.ensures))

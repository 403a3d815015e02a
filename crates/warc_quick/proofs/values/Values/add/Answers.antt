use Rattle.std.proofs.Common.{subst, None, get_or, sym, ap, ◌∙◌}
use Rattle.std.specs.Prelude.{is_some}
use Rattle.warc_quick.specs.Names.{IsNaming}
use Rattle.warc_quick.proofs.ValueLemmas.{known_added, other_added, repeat_added}
use Rattle.warc_quick.proofs.values.Values.add.Goals as goal

pub returns-in-Other : goal.returns-in-Other
returns-in-Other c = λ fields are _. other_added fields c.args.line.now.name.now c.args.line.now.value.now c.args.self.now.values (subst (IsNaming c.args.line.now.name.now) c.in-Other.is c.requires).1 are

pub returns-then-is_some : goal.returns-then-is_some
returns-then-is_some c = λ fields are may.
    let at = c.place-place.ensures.place in
    let some = ap (λ p. is_some (get_or c.args.self.now.values p None)) (sym at) ∙ sym c.is_some.ensures ∙ c.if-is_some.true in
    repeat_added c.are_field_names.ensures fields c.args.line.now.name.now c.args.line.now.value.now c.args.self.now.values c.in-Known.name
    (subst (IsNaming c.args.line.now.name.now) c.in-Known.is c.requires) some (sym c.may_repeat.ensures ∙ may) are

pub returns : goal.returns
returns c = λ fields are _.
    let at = c.place-place.ensures.place in
    let none = ap (λ p. is_some (get_or c.args.self.now.values p None)) (sym at) ∙ sym c.is_some.ensures ∙ c.if-is_some.false in
    rw at (known_added c.are_field_names.ensures fields c.args.line.now.name.now c.args.line.now.value c.args.self.now.values c.in-Known.name (subst (IsNaming c.args.line.now.name.now) c.in-Known.is c.requires) none are)

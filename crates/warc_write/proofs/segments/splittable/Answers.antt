use Rattle.std.proofs.Common.{◌≡◌, nat_lt, true, false, ok_or, sym, ap, ◌∙◌, arith}
use Rattle.std.proofs.lemmas.Bool.Decides.{nat_tests}
use Rattle.uuid.specs.Text.{parsed_urn}
use Rattle.warc_record.specs.Ids.{bare_text}
use Rattle.warc_write.specs.declared.segments.SplitFault.TheVariants.{NotUuid}
use Rattle.warc_write.specs.Splitting.{may_be_split}
use Rattle.warc_write.proofs.SplitLemmas.{by_uuid, no_head, no_kind, no_size, no_target, segmented}
use Rattle.warc_write.proofs.segments.splittable.Goals as goal

pub returns-then-size-eq0 : goal.returns-then-size-eq0
returns-then-size-eq0 g c =
    let none = c.if-size-eq0.true in
    let size : nat_lt 0 c.args.size ≡ false = grind (arith, nat_tests) in
    no_size c.args.fields.now c.args.size size

pub returns-in_default : goal.returns-in_default
returns-in_default g c =
    let some = c.if-size-eq0.false in
    let size : nat_lt 0 c.args.size ≡ true = grind (arith, nat_tests) in
    no_head c.args.fields.now c.args.size size (sym c.in_default.ensures.good)

pub returns-then-not-may_be_split : goal.returns-then-not-may_be_split
returns-then-not-may_be_split g c =
    let some = c.if-size-eq0.false in
    let size : nat_lt 0 c.args.size ≡ true = grind (arith, nat_tests) in
    no_kind c.args.fields.now c.args.size size (sym c.in-Some.ensures.good)
    (sym (c.may_be_split.ensures ∙ ap may_be_split c.in-Some.ensures.kind) ∙ c.if-not-may_be_split.true)

pub returns-then-not-has_target : goal.returns-then-not-has_target
returns-then-not-has_target g c =
    let some = c.if-size-eq0.false in
    let size : nat_lt 0 c.args.size ≡ true = grind (arith, nat_tests) in
    no_target c.args.fields.now c.args.size size (sym c.in-Some.ensures.good)
    (sym (c.may_be_split.ensures ∙ ap may_be_split c.in-Some.ensures.kind) ∙ c.if-not-may_be_split.false)
    (sym c.in-Some.ensures.target ∙ c.if-not-has_target.true)

pub returns-then-is_segmented : goal.returns-then-is_segmented
returns-then-is_segmented g c =
    let some = c.if-size-eq0.false in
    let size : nat_lt 0 c.args.size ≡ true = grind (arith, nat_tests) in
    segmented c.args.fields.now c.args.size size (sym c.in-Some.ensures.good)
    (sym (c.may_be_split.ensures ∙ ap may_be_split c.in-Some.ensures.kind) ∙ c.if-not-may_be_split.false)
    (sym c.in-Some.ensures.target ∙ c.if-not-has_target.false)
    (sym c.is_segmented.ensures ∙ c.if-is_segmented.true)

pub returns : goal.returns
returns g c =
    let some = c.if-size-eq0.false in
    let size : nat_lt 0 c.args.size ≡ true = grind (arith, nat_tests) in
    let uuid = c.urn_uuid.ensures ∙ ap parsed_urn (c.bare.ensures ∙ ap bare_text c.value_in.ensures.text) in
    by_uuid c.args.fields.now c.args.size size (sym c.in-Some.ensures.good)
    (sym (c.may_be_split.ensures ∙ ap may_be_split c.in-Some.ensures.kind) ∙ c.if-not-may_be_split.false)
    (sym c.in-Some.ensures.target ∙ c.if-not-has_target.false)
    (sym c.is_segmented.ensures ∙ c.if-is_segmented.false)
    ∙ sym (c.ok_or.ensures.value ∙ ap (λ o. ok_or o NotUuid) uuid)

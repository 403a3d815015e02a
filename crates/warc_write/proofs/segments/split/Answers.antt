use Rattle.std.proofs.Common.{◌≡◌, nat_le, ℕ, List, true, false, length, Ok}
use Rattle.std.proofs.Common.{sym, ap, subst, ◌∙◌, arith}
use Rattle.std.specs.List.{list_all}
use Rattle.std.proofs.lemmas.Bool.{ltb-true}
use Rattle.std.proofs.lemmas.Bool.Decides.{nat_tests}
use Rattle.std.proofs.lemmas.Result.{IfErr-weaker, IfOk-weaker}
use Rattle.warc_frame.specs.Record.{Record, IsFramed}
use Rattle.warc_record.specs.Good.{IsGood}
use Rattle.warc_record.proofs.GoodLemmas.{good_heads_have_no_fault}
use Rattle.warc_write.specs.Rendering.{AllGood}
use Rattle.warc_write.specs.Splitting.{AllFramed, has_room, segments_of, splittable}
use Rattle.warc_write.proofs.JoinLemmas.{split_joins}
use Rattle.warc_write.proofs.SegmentLemmas.{all_good, all_split, framed_have_room, head_or_memory, no_room}
use Rattle.warc_write.proofs.SegmentLemmas.{not_split, refused_by_digest}
use Rattle.warc_write.proofs.SegmentLemmas.{segment_or_memory, splittable_is_good, splittable_size}
use Rattle.warc_write.proofs.segments.split.Goals as goal

pub returns-in-Err-clause-fault : goal.returns-in-Err-clause-fault
returns-in-Err-clause-fault g c =
    head_or_memory c.in-Err.fault c.args.framed.now c.args.size
    (ap (λ fs. splittable fs c.args.size) (sym c.fields.ensures.fields) ∙ c.in-Err.ensures)

pub returns-then-has_bad_digest-clause-fault : goal.returns-then-has_bad_digest-clause-fault
returns-then-has_bad_digest-clause-fault g c =
    let head = ap (λ fs. splittable fs c.args.size) (sym c.fields.ensures.fields) ∙ c.in-Ok.ensures in
    refused_by_digest c.args.framed.now c.args.size c.in-Ok.uuid head (sym c.has_bad_digest.ensures
    ∙ c.if-has_bad_digest.true)

pub returns-then-block-size-clause-split : goal.returns-then-block-size-clause-split
returns-then-block-size-clause-split g c =
    let head = ap (λ fs. splittable fs c.args.size) (sym c.fields.ensures.fields) ∙ c.in-Ok.ensures in
    let test = c.if-block-size.true in
    let same = ap length c.block.ensures.block in
    let short : nat_le (length c.args.framed.now.block) c.args.size ≡ true = grind (arith, nat_tests) in
    not_split c.args.framed.now c.args.size c.in-Ok.uuid head (sym c.has_bad_digest.ensures
    ∙ c.if-has_bad_digest.false) short
    ∙ ap Ok (sym c.in_ok-whole.ensures.made)

pub returns-then-block-size-clause-good : goal.returns-then-block-size-clause-good
returns-then-block-size-clause-good g c =
    let head = ap (λ fs. splittable fs c.args.size) (sym c.fields.ensures.fields) ∙ c.in-Ok.ensures in
    let none = splittable_is_good c.args.framed.now.fields c.args.size c.in-Ok.uuid head in
    subst AllGood (sym c.in_ok-whole.ensures.made) (
      record {
        framed = c.in_ok-whole.ensures.framed;
        head = (good_heads_have_no_fault c.args.framed.now.fields).1 none;
      },
      tt,
    )

pub segments-requires-clause-some : goal.segments-requires-clause-some
segments-requires-clause-some g c =
    let head = ap (λ fs. splittable fs c.args.size) (sym c.fields.ensures.fields) ∙ c.in-Ok.ensures in
    ltb-true _ _ (splittable_size c.args.framed.now.fields c.args.size c.in-Ok.uuid head)

pub returns-clause-split : goal.returns-clause-split
returns-clause-split g c =
    let r = c.args.framed.now in
    let head = ap (λ fs. splittable fs c.args.size) (sym c.fields.ensures.fields) ∙ c.in-Ok.ensures in
    let digest = sym c.has_bad_digest.ensures ∙ c.if-has_bad_digest.false in
    let test = c.if-block-size.false in
    let same = ap length c.block.ensures.block in
    let long : nat_le (length r.block) c.args.size ≡ false = grind (arith, nat_tests) in
    IfOk-weaker c.segments.result _ _
    (λ all is. all_split r c.args.size c.in-Ok.uuid head digest long (ap (list_all has_room) (sym is.0)
    ∙ framed_have_room all.items is.1) ∙ ap Ok (sym is.0))
    c.segments.ensures.made

pub returns-clause-fault : goal.returns-clause-fault
returns-clause-fault g c =
    let r = c.args.framed.now in
    let head = ap (λ fs. splittable fs c.args.size) (sym c.fields.ensures.fields) ∙ c.in-Ok.ensures in
    let digest = sym c.has_bad_digest.ensures ∙ c.if-has_bad_digest.false in
    let test = c.if-block-size.false in
    let same = ap length c.block.ensures.block in
    let long : nat_le (length r.block) c.args.size ≡ false = grind (arith, nat_tests) in
    IfErr-weaker c.segments.result _ _
    (λ e is. segment_or_memory e r c.args.size (list_all has_room (segments_of r c.in-Ok.uuid c.args.size))
    (no_room r c.args.size c.in-Ok.uuid head digest long) is)
    c.segments.ensures.long

pub returns-clause-good : goal.returns-clause-good
returns-clause-good g c =
    let r = c.args.framed.now in
    let head = ap (λ fs. splittable fs c.args.size) (sym c.fields.ensures.fields) ∙ c.in-Ok.ensures in
    let none = splittable_is_good r.fields c.args.size c.in-Ok.uuid head in
    IfOk-weaker c.segments.result _ _
    (λ all is. subst AllGood (sym is.0)
    (all_good r c.in-Ok.uuid c.args.size _ none (c.good_heads_read.ensures r.fields none)
    (subst AllFramed is.0 is.1)))
    c.segments.ensures.made

good_from : (r : Record) (n : ℕ) (uuid : List ℕ) → IsFramed r → splittable r.fields n ≡ Ok uuid → IsGood r
good_from r n uuid framed head = record {
  framed = framed;
  head = (good_heads_have_no_fault r.fields).1 (splittable_is_good r.fields n uuid head);
}

pub returns-then-block-size-clause-joins : goal.returns-then-block-size-clause-joins
returns-then-block-size-clause-joins g c =
    let r = c.args.framed.now in
    let head = ap (λ fs. splittable fs c.args.size) (sym c.fields.ensures.fields) ∙ c.in-Ok.ensures in
    split_joins r c.args.size c.in_ok-whole.field-0.items
    (good_from r c.args.size c.in-Ok.uuid c.block.ensures.framed head)
    (returns-then-block-size-clause-split g c)

pub returns-clause-joins : goal.returns-clause-joins
returns-clause-joins g c =
    let r = c.args.framed.now in
    let head = ap (λ fs. splittable fs c.args.size) (sym c.fields.ensures.fields) ∙ c.in-Ok.ensures in
    let good = good_from r c.args.size c.in-Ok.uuid c.block.ensures.framed head in
    IfOk-weaker c.segments.result _ _ (λ all is. split_joins r c.args.size all.items good is) (returns-clause-split g c)

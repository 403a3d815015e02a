use Rattle.std.proofs.Common.{◌≡◌, nat_le, true, false, length, sym, ◌∙◌, arith}
use Rattle.std.proofs.lemmas.Bool.{ltb-true}
use Rattle.std.proofs.lemmas.Bool.Decides.{nat_tests}
use Rattle.warc_write.proofs.CutLemmas.{head_of_parts, refused_head}
use Rattle.warc_write.proofs.SegmentLemmas.{all_split, no_room, not_split, refused_by_digest, splittable_size}
use Rattle.warc_write.proofs.cuts.cut.Goals as goal

pub returns-in-Err-clause-cut : goal.returns-in-Err-clause-cut
returns-in-Err-clause-cut g c = λ r has.
    refused_head c.in-Err.fault r c.args.version c.args.fields.now c.args.size c.args.len c.args.is_bad has c.in-Err.ensures

pub returns-then-is_bad-clause-cut : goal.returns-then-is_bad-clause-cut
returns-then-is_bad-clause-cut g c = λ r has.
    let head = head_of_parts r c.args.version c.args.fields.now c.args.size c.args.len c.args.is_bad _ has c.in-Ok.ensures in
    refused_by_digest r c.args.size c.in-Ok.uuid head (has.digest_is ∙ c.if-is_bad.true)

pub returns-then-len-size-clause-cut : goal.returns-then-len-size-clause-cut
returns-then-len-size-clause-cut g c = λ r has.
    let head = head_of_parts r c.args.version c.args.fields.now c.args.size c.args.len c.args.is_bad _ has c.in-Ok.ensures in
    let test = c.if-len-size.true in
    let same = has.len_is in
    let short : nat_le (length r.block) c.args.size ≡ true = grind (arith, nat_tests) in
    not_split r c.args.size c.in-Ok.uuid head (has.digest_is ∙ c.if-is_bad.false) short

pub all_fit-requires-clause-some : goal.all_fit-requires-clause-some
all_fit-requires-clause-some g c = ltb-true _ _ (splittable_size c.args.fields.now c.args.size c.in-Ok.uuid c.in-Ok.ensures)

pub returns-then-not-branch-clause-cut : goal.returns-then-not-branch-clause-cut
returns-then-not-branch-clause-cut g c = λ r has.
    let head = head_of_parts r c.args.version c.args.fields.now c.args.size c.args.len c.args.is_bad _ has c.in-Ok.ensures in
    let test = c.if-len-size.false in
    let same = has.len_is in
    let long : nat_le (length r.block) c.args.size ≡ false = grind (arith, nat_tests) in
    no_room r c.args.size c.in-Ok.uuid head (has.digest_is ∙ c.if-is_bad.false) long
    (sym (c.in_ok-all_fit.ensures r c.args.is_bad has) ∙ c.if-not-branch.true)

pub returns-clause-cut : goal.returns-clause-cut
returns-clause-cut g c = λ r has.
    let head = head_of_parts r c.args.version c.args.fields.now c.args.size c.args.len c.args.is_bad _ has c.in-Ok.ensures in
    let test = c.if-len-size.false in
    let same = has.len_is in
    let long : nat_le (length r.block) c.args.size ≡ false = grind (arith, nat_tests) in
    all_split r c.args.size c.in-Ok.uuid head (has.digest_is ∙ c.if-is_bad.false) long
    (sym (c.in_ok-all_fit.ensures r c.args.is_bad has) ∙ c.if-not-branch.false)

pub returns-clause-long : goal.returns-clause-long
returns-clause-long g c = (
  ltb-true _ _ (splittable_size c.args.fields.now c.args.size c.in-Ok.uuid c.in-Ok.ensures),
  omega (arith, c.if-len-size.false),
)

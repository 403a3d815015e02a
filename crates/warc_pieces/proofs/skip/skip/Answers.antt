use Rattle.std.proofs.Common.{◌≡◌, ℕ, ◌+◌, ◌++◌, List, arith, append_assoc, ap, drop, refl, subst, sym, take, ◌∙◌}
use Rattle.std.proofs.lemmas.List.{take-append-drop}
use Rattle.warc_frame.specs.Reading.{record_of}
use Rattle.warc_record.specs.Heads.{head_fault}
use Rattle.warc_pieces.specs.Skip.{NoneWithin}
use Rattle.warc_pieces.proofs.SkipLemmas.{far_within, head_found, unended_within}
use Rattle.warc_pieces.proofs.skip.skip.Goals as goal

pub returns-in_default-clause-none : goal.returns-in_default-clause-none
returns-in_default-clause-none g c = λ more f whole bad kind offset.
    unended_within c.args.text.now more c.args.is_last c.skip_unended.result c.in_default.ensures whole c.skip_unended.ensures

pub returns-then-len-gt-MAX_HEAD-clause-none : goal.returns-then-len-gt-MAX_HEAD-clause-none
returns-then-len-gt-MAX_HEAD-clause-none g c = λ more f whole bad kind offset. far_within c.args.text.now more c.in-Some.end _ c.in-Some.ensures refl

pub skip_within-requires : goal.skip_within-requires
skip_within-requires g c = record { ends = head_found c.args.text.now c.in-Some.end c.in-Some.ensures (omega (arith, c.if-len-gt-MAX_HEAD.false)) }

pub returns-clause-none : goal.returns-clause-none
returns-clause-none g c = λ more f whole bad kind offset.
    let text = c.args.text.now in
    let n = c.in-Some.end + 4 in
    let head = take n text in
    let rest = drop n text ++ more in
    let same : text ++ more ≡ head ++ rest = ap (λ t. t ++ more) (sym (take-append-drop n text)) ∙ simp append_assoc in
    let P : List ℕ → Type 0 = λ t. NoneWithin t c.skip_within.result in
    subst P (sym same) (c.skip_within.ensures.none rest f (ap (record_of head_fault) (sym same) ∙ bad) kind offset)

use Rattle.std.proofs.Common.{arith, ◌∙◌, ap, sym, ◌++◌}
use Rattle.warc_field.proofs.LineLemmas.{unfold-other, unfold-blank, unfolded-none}
use Rattle.warc_field.proofs.lines.unfold.Goals.{then-blanks-eq0+in_ok-extend_from_slice-2, else-blanks-eq0+in_ok-push}
use Rattle.warc_field.proofs.lines.unfold.Goals as goal

pub loop-part-preserved : goal.loop-part-preserved
loop-part-preserved g c = elim c.if-blanks-eq0.branch [
  | then-blanks-eq0+in_ok-extend_from_slice-2 w ↦
      rw (w.out-is, w.in_ok-extend_from_slice-2.ensures.items, c.in_ok-extend_from_slice.ensures.items)
      (unfold-other _ _ _ _ _ _ c.loop-part.invariant c.in-Some.ensures.part c.leading_blanks-blanks.ensures.count (omega arith))
  | else-blanks-eq0+in_ok-push w ↦
      rw (w.out-is, w.in_ok-push.ensures.items, c.in_ok-extend_from_slice.ensures.items)
      (unfold-blank _ _ _ _ _ _ c.loop-part.invariant c.in-Some.ensures.part c.leading_blanks-blanks.ensures.count (omega arith))
]

pub returns : goal.returns
returns g c = rw c.in_ok-extend_from_slice-3.ensures.items (ap (λ xs. c.loop-part.out.items ++ xs) (sym (unfolded-none _ c.in_default.ensures.none)) ∙ c.loop-part.invariant)

use Rattle.std.proofs.Common.{ℕ, ◌-◌, length, take, drop, ap, arith}
use Rattle.std.proofs.lemmas.Bool.{and_from, and_parts}
use Rattle.warc_quick.proofs.NameLemmas.{same_parts}
use Rattle.warc_quick.proofs.names.is_same.Goals as goal

pub returns : goal.returns
returns c = (
  λ all.
      let three = and_parts _ _ all in
      let two = and_parts _ _ three.0 in
      let one = and_parts _ _ two.0 in
      same_parts c.args.text.now c.args.name.now c.min.result c.min-2.result (length c.args.name.now - 8) (omega (arith, c.if-text-name.false))
      c.requires.1 (omega (arith, c.requires.0)) c.min.ensures c.min-2.ensures (c.have_same_part.ensures.0 one.0)
      (c.have_same_part-2.ensures.0 one.1) (c.have_same_part-3.ensures.0 two.1) (c.have_same_part-4.ensures.0 three.1),
  λ same.
      let part = λ (at : ℕ). ap (λ xs. take 8 (drop at xs)) same in
      let front = and_from _ _ (c.have_same_part.ensures.1 (part 0)) (c.have_same_part-2.ensures.1 (part c.min.result)) in
      and_from _ _ (and_from _ _ front (c.have_same_part-3.ensures.1 (part c.min-2.result)))
      (c.have_same_part-4.ensures.1 (part (length c.args.name.now - 8))),
)

use Rattle.std.proofs.Common.{◌≡◌, ◌≤◌, ◌+◌, ◌∙◌, inr, length, ap, sym, subst, arith}
use Rattle.std.proofs.lemmas.List.{take_at}
use Rattle.warc_index.specs.Chains.{AreReached}
use Rattle.warc_index.specs.Referents.{next_of}
use Rattle.warc_index.proofs.ReachLemmas.{once_reached, fewer_reached, past_next}
use Rattle.warc_index.proofs.index.RecordIndex+Order+A+A.last_places.Goals as goal

pub doubling-init : goal.doubling-init
doubling-init g c = record {
  some = omega arith;
  are = λ all kept.
      let (long, each) = c.in_ok-places.ensures all kept in
      once_reached (next_of all) _ (λ p beyond. past_next all p (omega (arith, long, beyond)))
      (λ p within. each p (omega (arith, long, within)));
}

pub doubling-preserved : goal.doubling-preserved
doubling-preserved g c = record {
  some = omega (arith, c.doubling.invariant.some);
  are = λ all kept.
      let next = next_of all in
      let old = c.doubling.steps in
      let before = subst (AreReached next old) (sym c.deref_mut.ensures.value) (c.doubling.invariant.are all kept) in
      let back = take_at c.double.new.places _ _ (omega (arith, c.double.ensures.same, c.deref_mut.ensures.len)) in
      fewer_reached next (old + old) _ _ (omega arith)
      (subst (AreReached next (old + old)) (sym back) (c.double.ensures.further next old before));
}

pub returns : goal.returns
returns g c all kept =
    let n : c.self.inside.count ≡ length all = ap (λ v. v.count) c.self.view_is ∙ kept.count in
    inr (fewer_reached (next_of all) c.doubling.steps (length all) _ (omega (arith, n, c.doubling-test.false))
    (c.doubling.invariant.are all kept))

use Rattle.std.proofs.Common.{◌∙◌, ◌<◌, ◌∷◌, ◌++◌, [], Option, ap, sym, subst}
use Rattle.warc_order.specs.declared.FoundEntry.{FoundEntry}
use Rattle.warc_index.proofs.CaptureLemmas.{IsGathered, begins, gathered, next_on_way, steps_on}
use Rattle.warc_index.proofs.PassLemmas.{forward, forward_left, left}
use Rattle.warc_index.proofs.lookup.captures_of.Goals as goal

pub loop-next-init : goal.loop-next-init
loop-next-init g c = record {
  within = c.first_from-next.ensures.within;
  gathered = λ all timed held.
      subst (IsGathered all c.args.target.now c.args.by_target.now c.first_from-next.result) (sym c.new-positions.ensures.items)
      (begins all c.args.target.now c.args.by_target.now timed held c.first_from-next.result c.first_from-next.ensures.some c.first_from-next.ensures.none);
}

pub loop-next-preserved : goal.loop-next-preserved
loop-next-preserved g c = record {
  within = c.next-next.ensures.within;
  gathered = λ all timed held.
      let by = c.loop-next.invariant.gathered all timed held in
      let next = next_on_way all c.args.target.now c.args.by_target.now c.loop-next.next c.in-Some.found c.loop-next.positions.items c.in-Some.is by in
      subst (IsGathered all c.args.target.now c.args.by_target.now c.next-next.result)
      (ap (λ p. c.loop-next.positions.items ++ p ∷ []) (sym c.position.ensures) ∙ sym c.in_ok-push.ensures.items)
      (steps_on all c.args.target.now c.args.by_target.now timed held c.loop-next.positions.items c.in-Some.found.index by.captures next
      c.next-next.result by.order c.next-next.ensures.some c.next-next.ensures.none);
}

pub loop-next-smaller : goal.loop-next-smaller
loop-next-smaller g c =
    subst (λ (o : Option FoundEntry). left forward c.args.by_target.now c.next-next.result < left forward
    c.args.by_target.now o) (sym c.in-Some.is) (forward_left c.args.by_target.now c.in-Some.found.index
    c.next-next.result c.next-next.ensures.some)

pub returns : goal.returns
returns g c = λ all timed held.
    gathered all c.args.target.now c.args.by_target.now c.loop-next.next c.loop-next.positions.items c.in_default.is
    (c.loop-next.invariant.gathered all timed held)

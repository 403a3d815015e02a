use Rattle.std.proofs.Common.{sym, subst, length}
use Rattle.warc_segment.specs.Held.{side_by_side, AreInSeries, IsNext}
use Rattle.warc_segment.proofs.StepLemmas.{IsEntry, no_series, one_further, one_left, whole, first_step, next_step, some_waits, none_waits, falls}
use Rattle.warc_segment.proofs.held.series_of.Goals as goal

pub loop-next-init : goal.loop-next-init
loop-next-init g c = (
  subst (AreInSeries c.args.id.now (side_by_side c.args.order.now c.args.facts.now)) (sym c.new-series.ensures.items)
      (no_series c.args.id.now (side_by_side c.args.order.now c.args.facts.now)),
  first_step c.args.id.now c.args.order.now c.first_from-next.result c.first_from-next.ensures.within
      c.first_from-next.ensures.some c.first_from-next.ensures.none c.new-series.result.items
      c.new-series.ensures.items,
)

pub loop-next-smaller : goal.loop-next-smaller
loop-next-smaller g c =
    let next : IsNext c.args.id.now c.args.order.now c.loop-next.series.items c.in-Some.found.index =
    some_waits c.args.id.now c.args.order.now c.loop-next.series.items c.loop-next.next c.in-Some.found c.in-Some.is
    c.loop-next.invariant.1 in
    falls (length c.args.order.now) c.loop-next.series.items c.push.new.self.items c.continuation_at.result
    (one_left c.args.id.now c.args.order.now c.args.facts.now c.loop-next.series.items c.in-Some.found.index
    (record { total = c.continuation_at.result.total; place = c.continuation_at.result.place })
    c.requires.1.same c.loop-next.invariant.0 next)
    c.in_ok-push.ensures.items

pub loop-next-preserved : goal.loop-next-preserved
loop-next-preserved g c =
    let next : IsNext c.args.id.now c.args.order.now c.loop-next.series.items c.in-Some.found.index =
    some_waits c.args.id.now c.args.order.now c.loop-next.series.items c.loop-next.next c.in-Some.found c.in-Some.is
    c.loop-next.invariant.1 in
    let entry : IsEntry c.args.order.now c.args.facts.now c.in-Some.found.index c.continuation_at.result = record {
      facts = record { total = c.continuation_at.result.total; place = c.continuation_at.result.place };
      is_present = c.continuation_at.ensures.is_present;
      is = c.continuation_at.ensures.is;
    } in (
      subst (AreInSeries c.args.id.now (side_by_side c.args.order.now c.args.facts.now))
          (sym c.in_ok-push.ensures.items)
          (one_further c.args.id.now c.args.order.now c.args.facts.now c.loop-next.series.items c.in-Some.found.index
          c.continuation_at.result c.loop-next.invariant.0 next entry),
      next_step c.requires.0 c.args.id.now c.args.order.now c.args.facts.now c.loop-next.series.items
          c.push.new.self.items c.in-Some.found.index c.continuation_at.result c.next-next.result c.requires.1 next
          entry
          c.in_ok-push.ensures.items c.next-next.ensures.within c.next-next.ensures.some c.next-next.ensures.none,
    )

pub returns : goal.returns
returns g c =
    whole c.requires.0 c.args.id.now c.args.order.now c.args.facts.now c.loop-next.series.items c.requires.1
    c.loop-next.invariant.0
    (none_waits c.args.id.now c.args.order.now c.loop-next.series.items c.loop-next.next c.in_default.is
    c.loop-next.invariant.1)

use Rattle.std.proofs.Common.{◌≡◌, ◌∷◌, ◌∙◌, List, map, Some, Ok, Err, sym, ap, subst, rules}
use Rattle.warc_record.specs.declared.readings.SegmentNumber.TheVariants.{Number}
use Rattle.warc_record.specs.Seen.{said}
use Rattle.warc_segment.specs.declared.held.TotalAndPlace.{TotalAndPlace}
use Rattle.warc_segment.specs.declared.series.Continuation.{Continuation}
use Rattle.warc_segment.specs.Held.{side_by_side, IsSeries, IsWholeSeries}
use Rattle.warc_segment.proofs.JoinLemmas.{joined_ok, joined_fault}
use Rattle.warc_segment.proofs.parts.Parts.join.Goals as goal

pub returns-in_err-series-in-Number-eq1 : goal.returns-in_err-series-in-Number-eq1
returns-in_err-series-in-Number-eq1 g c = λ all was.
    let fault = c.in_err-series-in-Number-eq1.field-0.0 in
    let one : c.args.typed.now.segment.number ≡ Number 1 = cc in
    let is : c.from_residual-in_err-series-in-Number-eq1.result ≡ Err fault = search rules in
    joined_fault c.self.inside.count (record { head = said c.args.typed.now; place = c.args.place })
    c.bytes-id.result.now c.self.inside.order c.self.inside.facts.items all _ c.whole_series.result fault
    c.self.invariant (c.self.view_is ∙ was) (ap Some (sym c.bytes-id.ensures)) one is
    c.in_err-series-in-Number-eq1.was
    (subst (λ (facts : List TotalAndPlace).
    IsSeries c.bytes-id.result.now c.args.place.len (side_by_side c.self.inside.order facts) c.whole_series.result)
    c.deref.ensures.value c.whole_series.ensures)

pub returns-in_ok-places_of-in-Number-eq1 : goal.returns-in_ok-places_of-in-Number-eq1
returns-in_ok-places_of-in-Number-eq1 g c = λ all was.
    let one : c.args.typed.now.segment.number ≡ Number 1 = cc in
    let series = c.in_ok-series-in-Number-eq1 in
    joined_ok c.self.inside.count (record { head = said c.args.typed.now; place = c.args.place })
    c.bytes-id.result.now c.self.inside.order c.self.inside.facts.items series.series.items all c.self.invariant
    (c.self.view_is ∙ was) (ap Some (sym c.bytes-id.ensures)) one
    (subst (λ (facts : List TotalAndPlace).
    IsWholeSeries c.bytes-id.result.now (side_by_side c.self.inside.order facts) series.series.items)
    c.deref.ensures.value series.ensures.0)
    series.ensures.1 series.ensures.2
    ∙ ap Ok (sym (c.in_ok-places_of-in-Number-eq1.ensures
    ∙ ap (λ (cs : List Continuation). c.args.place ∷ map (λ x. x.place) cs) c.deref-in-Number-eq1.ensures.value))

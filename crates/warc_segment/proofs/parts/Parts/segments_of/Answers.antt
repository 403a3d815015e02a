use Rattle.std.proofs.Common.{◌∙◌, ℕ, ap, map, List, Some, sym, subst}
use Rattle.std.proofs.lemmas.Result.{IfOk-weaker}
use Rattle.warc_segment.specs.declared.held.TotalAndPlace.{TotalAndPlace}
use Rattle.warc_segment.specs.Held.{side_by_side, IsWholeSeries, positions_of}
use Rattle.warc_segment.specs.Joined.{piece_placed}
use Rattle.warc_segment.specs.Series.{AreMembersAt, series_of}
use Rattle.warc_segment.proofs.MemberLemmas.{members_at}
use Rattle.warc_segment.proofs.parts.Parts.segments_of.Goals as goal

pub returns : goal.returns
returns g c all was =
    let series = c.in_ok-series.series.items in
    let members = series_of (Some c.bytes.result.now) (map piece_placed all) in
    let whole : IsWholeSeries c.bytes.result.now (side_by_side c.self.inside.order c.self.inside.facts.items) series =
    subst (λ (facts : List TotalAndPlace).
    IsWholeSeries c.bytes.result.now (side_by_side c.self.inside.order facts) series)
    c.deref.ensures.value c.in_ok-series.ensures in
    let at : AreMembersAt members (positions_of series) =
    members_at c.self.inside.count c.bytes.result.now c.self.inside.order c.self.inside.facts.items series all
    c.self.invariant (c.self.view_is ∙ was) whole in
    IfOk-weaker c.positions_of.result _ _
    (λ positions is. subst (λ (id : List ℕ).
    AreMembersAt (series_of (Some id) (map piece_placed all)) positions.items) c.bytes.ensures
    (subst (AreMembersAt members) (sym (is ∙ ap positions_of c.deref-2.ensures.value)) at))
    c.positions_of.ensures

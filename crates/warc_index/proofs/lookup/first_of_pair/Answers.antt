use Rattle.std.proofs.Common.{◌≡◌, ◌∙◌, ◌<◌, ℕ, Option, Some, false, ap, sym, subst}
use Rattle.warc_order.specs.declared.FoundEntry.{FoundEntry}
use Rattle.warc_order.specs.Entries.{Entry, entry_at, IsFrom}
use Rattle.warc_order.specs.declared.mark.Mark.{Mark}
use Rattle.warc_index.specs.Links.{is_same_mark, link_at, has_payload_as}
use Rattle.warc_index.proofs.PassLemmas.{forward, IsReached, reached_some, missed_none, forward_starts, forward_steps, forward_left, left}
use Rattle.warc_index.proofs.LinkedLemmas.{pair_test, pair_found, pair_missed, over_pair, fails_right}
use Rattle.warc_index.proofs.lookup.first_of_pair.Goals as goal

pub loop-next-init : goal.loop-next-init
loop-next-init g c =
    forward_starts c.args.by_target.now c.args.target.now c.args.mark (pair_test c.args.mark c.args.links.now)
    c.first_from-next.result c.first_from-next.ensures.within c.first_from-next.ensures.some
    c.first_from-next.ensures.none

pub loop-next-preserved : goal.loop-next-preserved
loop-next-preserved g c =
    let test : Mark → ℕ → _ = pair_test c.args.mark c.args.links.now in
    let reached : IsReached forward c.args.by_target.now (IsFrom c.args.target.now c.args.mark) test
    c.in-Some.found.index = reached_some forward c.args.by_target.now (IsFrom c.args.target.now c.args.mark) test
    c.loop-next.next c.in-Some.found c.in-Some.is c.loop-next.invariant in
    let e : Entry = entry_at c.args.by_target.now c.in-Some.found.index in
    let miss : has_payload_as (link_at c.args.links.now e.position).role ≡ false =
    ap (λ p. has_payload_as (link_at c.args.links.now p).role) (sym c.position-position.ensures)
    ∙ (sym c.has_payload.ensures ∙ c.if-has_payload.false) in
    forward_steps c.args.by_target.now c.args.target.now c.args.mark test c.in-Some.found.index c.next-next.result
    reached (fails_right (is_same_mark e.mark c.args.mark) (has_payload_as (link_at c.args.links.now e.position).role)
    miss) c.next-next.ensures.within c.next-next.ensures.some c.next-next.ensures.none

pub loop-next-smaller : goal.loop-next-smaller
loop-next-smaller g c =
    subst (λ (o : Option FoundEntry). left forward c.args.by_target.now c.next-next.result < left forward
    c.args.by_target.now o) (sym c.in-Some.is) (forward_left c.args.by_target.now c.in-Some.found.index
    c.next-next.result c.next-next.ensures.some)

pub returns-then-not-is_same_mark : goal.returns-then-not-is_same_mark
returns-then-not-is_same_mark g c all placed instant is =
    let test : Mark → ℕ → _ = pair_test c.args.mark c.args.links.now in
    let reached : IsReached forward c.args.by_target.now (IsFrom c.args.target.now c.args.mark) test
    c.in-Some.found.index = reached_some forward c.args.by_target.now (IsFrom c.args.target.now c.args.mark) test
    c.loop-next.next c.in-Some.found c.in-Some.is c.loop-next.invariant in
    let e : Entry = entry_at c.args.by_target.now c.in-Some.found.index in
    let other : is_same_mark e.mark c.args.mark ≡ false =
    ap (λ m. is_same_mark m c.args.mark) (sym c.mark.ensures) ∙ (sym c.is_same_mark.ensures ∙ c.if-not-is_same_mark.true)
    in
    sym (pair_missed all c.args.by_target.now c.args.links.now c.args.target.now c.args.mark instant placed is
    (over_pair c.args.by_target.now c.args.target.now c.args.mark c.args.links.now c.in-Some.found.index reached other))

pub returns-then-has_payload : goal.returns-then-has_payload
returns-then-has_payload g c all placed instant is =
    let test : Mark → ℕ → _ = pair_test c.args.mark c.args.links.now in
    let reached : IsReached forward c.args.by_target.now (IsFrom c.args.target.now c.args.mark) test
    c.in-Some.found.index = reached_some forward c.args.by_target.now (IsFrom c.args.target.now c.args.mark) test
    c.loop-next.next c.in-Some.found c.in-Some.is c.loop-next.invariant in
    ap Some c.position-position.ensures
    ∙ sym (pair_found all c.args.by_target.now c.args.links.now c.args.target.now c.args.mark instant
    c.in-Some.found.index placed is reached
    (ap (λ m. is_same_mark m c.args.mark) (sym c.mark.ensures) ∙ (sym c.is_same_mark.ensures
    ∙ c.if-not-is_same_mark.false))
    (ap (λ p. has_payload_as (link_at c.args.links.now p).role) (sym c.position-position.ensures)
    ∙ (sym c.has_payload.ensures ∙ c.if-has_payload.true)))

pub returns : goal.returns
returns g c all placed instant is =
    sym (pair_missed all c.args.by_target.now c.args.links.now c.args.target.now c.args.mark instant placed is
    (missed_none forward c.args.by_target.now (IsFrom c.args.target.now c.args.mark) (pair_test c.args.mark
    c.args.links.now) c.loop-next.next c.in_default.is c.loop-next.invariant))

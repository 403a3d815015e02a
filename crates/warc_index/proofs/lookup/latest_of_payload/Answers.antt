use Rattle.std.proofs.Common.{◌∙◌, ◌<◌, ℕ, Option, Some, ap, sym, subst}
use Rattle.warc_order.specs.declared.FoundEntry.{FoundEntry}
use Rattle.warc_order.specs.Entries.{IsUpTo}
use Rattle.warc_order.specs.declared.mark.Mark.{Mark}
use Rattle.warc_index.specs.Links.{link_at, states_digest}
use Rattle.warc_index.proofs.PassLemmas.{back, IsReached, reached_some, missed_none, back_starts, back_steps, back_left, left}
use Rattle.warc_index.proofs.LinkedLemmas.{digest_test, payload_found, payload_missed}
use Rattle.warc_index.proofs.lookup.latest_of_payload.Goals as goal

pub loop-previous-init : goal.loop-previous-init
loop-previous-init g c =
    back_starts c.args.by_target.now c.args.target.now c.args.mark (digest_test c.args.digest.now c.args.links.now)
    c.last_up_to-previous.result c.last_up_to-previous.ensures.within c.last_up_to-previous.ensures.some
    c.last_up_to-previous.ensures.none

pub position-position-requires : goal.position-position-requires
position-position-requires g c =
    (reached_some back c.args.by_target.now (IsUpTo c.args.target.now c.args.mark) (digest_test c.args.digest.now
    c.args.links.now) c.loop-previous.previous c.in-Some.found c.in-Some.is c.loop-previous.invariant).within

pub previous-previous-requires : goal.previous-previous-requires
previous-previous-requires g c =
    (reached_some back c.args.by_target.now (IsUpTo c.args.target.now c.args.mark) (digest_test c.args.digest.now
    c.args.links.now) c.loop-previous.previous c.in-Some.found c.in-Some.is c.loop-previous.invariant).within

pub loop-previous-preserved : goal.loop-previous-preserved
loop-previous-preserved g c =
    let test : Mark → ℕ → _ = digest_test c.args.digest.now c.args.links.now in
    let reached : IsReached back c.args.by_target.now (IsUpTo c.args.target.now c.args.mark) test
    c.in-Some.found.index = reached_some back c.args.by_target.now (IsUpTo c.args.target.now c.args.mark) test
    c.loop-previous.previous c.in-Some.found c.in-Some.is c.loop-previous.invariant in
    back_steps c.args.by_target.now c.args.target.now c.args.mark test c.in-Some.found.index
    c.previous-previous.result reached
    (ap (λ p. states_digest c.args.digest.now (link_at c.args.links.now p)) (sym c.position-position.ensures)
    ∙ (sym c.states_digest.ensures ∙ c.if-states_digest.false)) c.previous-previous.ensures.within
    c.previous-previous.ensures.some c.previous-previous.ensures.none

pub loop-previous-smaller : goal.loop-previous-smaller
loop-previous-smaller g c =
    subst (λ (o : Option FoundEntry). left back c.args.by_target.now c.previous-previous.result < left back
    c.args.by_target.now o) (sym c.in-Some.is) (back_left c.args.by_target.now c.in-Some.found.index
    c.previous-previous.result c.previous-previous.ensures.some)

pub returns-then-states_digest : goal.returns-then-states_digest
returns-then-states_digest g c all placed revisit target stated instant has is =
    let test : Mark → ℕ → _ = digest_test c.args.digest.now c.args.links.now in
    let reached : IsReached back c.args.by_target.now (IsUpTo c.args.target.now c.args.mark) test
    c.in-Some.found.index = reached_some back c.args.by_target.now (IsUpTo c.args.target.now c.args.mark) test
    c.loop-previous.previous c.in-Some.found c.in-Some.is c.loop-previous.invariant in
    ap Some c.position-position.ensures
    ∙ sym (payload_found all c.args.by_target.now c.args.links.now c.args.target.now c.args.digest.now c.args.mark
    instant revisit c.in-Some.found.index placed (record { target = target; stated = stated; instant = has }) is reached
    (ap (λ p. states_digest c.args.digest.now (link_at c.args.links.now p)) (sym c.position-position.ensures)
    ∙ (sym c.states_digest.ensures ∙ c.if-states_digest.true)))

pub returns : goal.returns
returns g c all placed revisit target stated instant has is =
    sym (payload_missed all c.args.by_target.now c.args.links.now c.args.target.now c.args.digest.now c.args.mark
    instant revisit placed (record { target = target; stated = stated; instant = has }) is
    (missed_none back c.args.by_target.now (IsUpTo c.args.target.now c.args.mark) (digest_test c.args.digest.now
    c.args.links.now) c.loop-previous.previous c.in_default.is c.loop-previous.invariant))

use Rattle.std.proofs.Common.{◌+◌, ◌∙◌, [], ◌∷◌, ◌++◌, ℕ, Bool, sym, subst}
use Rattle.warc_rewrite.specs.Marks.{AreWhere}
use Rattle.warc_rewrite.specs.Statuses.{needs_none, status_at}
use Rattle.warc_rewrite.proofs.WhereLemmas.{where_hit, where_miss, where_none}
use Rattle.warc_rewrite.proofs.remainder.kept_positions.Goals as goal

pub listing-init : goal.listing-init
listing-init g c = subst (AreWhere (λ p. needs_none (status_at c.args.statuses.now p)) 0) (sym c.new-positions.ensures.items)
    (where_none (λ p. needs_none (status_at c.args.statuses.now p)))

pub listing-preserved-then-not-is_kept : goal.listing-preserved-then-not-is_kept
listing-preserved-then-not-is_kept g c =
    where_miss (λ p. needs_none (status_at c.args.statuses.now p)) c.listing.position c.listing.positions.items
    c.listing.invariant (sym c.is_kept.ensures ∙ c.if-not-is_kept.true)

pub listing-preserved : goal.listing-preserved
listing-preserved g c =
    let test : ℕ → Bool = λ p. needs_none (status_at c.args.statuses.now p) in
    subst (AreWhere test (c.listing.position + 1)) {x = c.listing.positions.items ++ c.listing.position ∷ []}
    (sym c.in_ok-push.ensures.items)
    (where_hit test c.listing.position c.listing.positions.items c.listing.invariant
    (sym c.is_kept.ensures ∙ c.if-not-is_kept.false))

use Rattle.std.proofs.Common.{◌+◌, [], ◌∷◌, ◌++◌, ℕ, sym, ap, subst}
use Rattle.warc_rewrite.specs.Marks.{AreWhere, marks_needed, mark_in}
use Rattle.warc_rewrite.proofs.WhereLemmas.{where_hit, where_miss, where_none}
use Rattle.warc_rewrite.proofs.needs.marked_positions.Goals as goal

pub listing-init : goal.listing-init
listing-init g c = subst (AreWhere (λ p. marks_needed (mark_in c.args.marks.now p)) 0) (sym c.new-positions.ensures.items)
    (where_none (λ p. marks_needed (mark_in c.args.marks.now p)))

pub listing-preserved-then-is_free : goal.listing-preserved-then-is_free
listing-preserved-then-is_free g c =
    where_miss (λ p. marks_needed (mark_in c.args.marks.now p)) c.listing.position c.listing.positions.items c.listing.invariant
    (ap marks_needed (c.is_free.ensures.free c.if-is_free.true))

pub listing-preserved : goal.listing-preserved
listing-preserved g c =
    let test : ℕ → _ = λ p. marks_needed (mark_in c.args.marks.now p) in
    subst (AreWhere test (c.listing.position + 1)) {x = c.listing.positions.items ++ c.listing.position ∷ []}
    (sym c.in_ok-push.ensures.items)
    (where_hit test c.listing.position c.listing.positions.items c.listing.invariant
    (c.is_free.ensures.marked c.if-is_free.false c.listing-test.true))

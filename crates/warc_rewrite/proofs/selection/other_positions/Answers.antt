use Rattle.std.proofs.Common.{◌+◌, [], ◌∷◌, ◌++◌, subst, sym}
use Rattle.warc_rewrite.specs.Selecting.{AreOthers}
use Rattle.warc_rewrite.proofs.OtherLemmas.{absent, others_hit, others_miss, passed_hit, passed_miss, present}
use Rattle.warc_rewrite.proofs.selection.other_positions.Goals as goal

pub listing-preserved-then-is_at : goal.listing-preserved-then-is_at
listing-preserved-then-is_at g c =
    let ps = c.args.positions.now in
    let n = c.listing.position in
    let at = c.is_at.ensures.is c.if-is_at.true in
    record {
      passed = passed_hit ps c.requires.ascending n c.listing.place at.0 at.1;
      others = others_hit n ps c.listing.others.items c.listing.invariant.others (present ps n c.listing.place at.0 at.1);
    }

pub listing-preserved : goal.listing-preserved
listing-preserved g c =
    let ps = c.args.positions.now in
    let n = c.listing.position in
    let old = c.listing.invariant in
    let passed = passed_miss ps c.requires.ascending n c.listing.place old.passed (c.is_at.ensures.not c.if-is_at.false) in
    record {
      passed = passed;
      others = subst (λ os. AreOthers (n + 1) ps os) {x = c.listing.others.items ++ n ∷ []} (sym c.in_ok-push.ensures.items)
          (others_miss n ps c.listing.others.items old.others (absent ps n c.listing.place old.passed passed));
    }

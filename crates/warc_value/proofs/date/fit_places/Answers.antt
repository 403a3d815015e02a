use Rattle.std.proofs.Common.{arith, refl, ◌∙◌}
use Rattle.warc_value.proofs.DateLemmas.{fits_from, fit-more, fit-whole}
use Rattle.warc_value.proofs.date.fit_places.Goals as goal

pub loop-at-init : goal.loop-at-init
unfolding fits_from
loop-at-init c = refl

pub loop-at-preserved : goal.loop-at-preserved
loop-at-preserved c = fit-more c.args.bytes.now c.loop-at.at c.loop-at.fit c.requires c.loop-at-test.true c.loop-at.invariant

pub returns : goal.returns
returns c = c.loop-at.invariant ∙ fit-whole c.args.bytes.now c.loop-at.at c.requires (omega arith)

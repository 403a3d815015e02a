use Rattle.std.proofs.Common.{ap, sym, subst, ◌∙◌}
use Rattle.warc_write.specs.Rendering.{AllGood}
use Rattle.example_library.proofs.MoveLemmas.{all_made, good_more, made_more}
use Rattle.example_library.proofs.round_trip.make_all.Goals as goal

pub loop-plan-preserved : goal.loop-plan-preserved
loop-plan-preserved c =
    let records = c.loop-plan.records.items in
    record {
      made = ap all_made c.in-Ok.ensures.items
          ∙ made_more records c.in_ok-record.record c.args.plans.now c.loop-plan.plan-index _ c.loop-plan-test.true c.loop-plan.invariant.made c.in_ok-record.ensures.made;
      good = subst AllGood (sym c.in-Ok.ensures.items) (good_more records c.in_ok-record.record c.loop-plan.invariant.good c.in_ok-record.ensures.good);
    }

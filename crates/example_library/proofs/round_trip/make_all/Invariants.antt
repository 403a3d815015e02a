use Rattle.std.proofs.Common.{◌≡◌, Ok, map, take}
use Rattle.warc_write.specs.Making.{made}
use Rattle.warc_write.specs.Rendering.{AllGood}
use Rattle.example_library.specs.RoundTrip.{plan_of_draft}
use Rattle.example_library.proofs.round_trip.make_all.Given as goal

abbrev pub invariant-loop-plan : goal.invariant-loop-plan
invariant-loop-plan l = record {
  made : map Ok l.records.items ≡ map (λ plan. made (plan_of_draft plan)) (take l.plan-index l.plans);
  good : AllGood l.records.items;
}

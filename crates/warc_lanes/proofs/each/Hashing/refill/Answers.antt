use Rattle.std.proofs.Common.{arith, inl, inr, ◌∙◌}
use Rattle.std.proofs.lemmas.Bool.{cases_eq}
use Rattle.warc_lanes.proofs.each.Hashing.refill.Goals as goal

pub lanes-preserved : goal.lanes-preserved
lanes-preserved c =
    let filled = c.refill_lane.ensures in (
      filled.hashing,
      λ j below. elim (cases_eq j c.lanes.lane) [
        | inl same ↦ rw same filled.ready
        | inr other ↦ filled.others j other (c.lanes.invariant.1 j (omega arith))
      ],
      filled.left ∙ c.lanes.invariant.2,
    )

use Rattle.std.proofs.Common.{◌∙◌}
use Rattle.warc_lanes.specs.Digests.{LaneHasTaken}
use Rattle.warc_lanes.proofs.DigestLemmas.{absorbed_along, digest_is, none_absorbed}
use Rattle.warc_lanes.proofs.FourDigests.finish.Goals as goal

pub returns : goal.returns
unfolding LaneHasTaken
returns c = record {
  digest = λ message held. c.digest-digest.ensures ∙ digest_is _ message held;
  begun = none_absorbed _ c.begin.ensures.begun;
  others = λ other taken differs held. absorbed_along _ _ taken (c.begin.ensures.others other differs) held;
}

use Rattle.std.proofs.Common.{refl}
use Rattle.warc_lanes.specs.Digests.{LaneHasTaken}
use Rattle.warc_lanes.proofs.DigestLemmas.{none_absorbed}
use Rattle.warc_lanes.proofs.LaneLemmas.{of_lanes}
use Rattle.warc_lanes.proofs.FourDigests.new.Goals as goal

pub returns : goal.returns
unfolding LaneHasTaken
returns c = of_lanes _ (none_absorbed _ refl) (none_absorbed _ refl) (none_absorbed _ refl) (none_absorbed _ refl)

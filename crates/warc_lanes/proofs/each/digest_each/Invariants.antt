use Rattle.warc_lanes.specs.Lanes.{InEachLane}
use Rattle.warc_lanes.specs.Messages.{IsHashing, IsReady, bytes_left}
use Rattle.warc_lanes.proofs.each.digest_each.Given as goal

abbrev pub invariant-hashing : goal.invariant-hashing
invariant-hashing l = (IsHashing l.messages l.lanes l.hashing l.digests) × (InEachLane (IsReady l.messages l.hashing))

abbrev pub decreases-hashing : goal.decreases-hashing
decreases-hashing l = bytes_left l.messages l.hashing

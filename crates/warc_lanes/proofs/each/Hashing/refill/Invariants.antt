use Rattle.std.proofs.Common.{◌≡◌, ℕ, ◌<◌}
use Rattle.warc_lanes.specs.Messages.{IsHashing, IsReady, bytes_left}
use Rattle.warc_lanes.proofs.each.Hashing.refill.Given as goal

abbrev pub invariant-lanes : goal.invariant-lanes
invariant-lanes l =
    (IsHashing l.messages l.lanes l.self l.digests) × ((j : ℕ) → j < l.lane → IsReady l.messages l.self j)
    × (bytes_left l.messages l.self ≡ bytes_left l.messages l.initial.self)

use Rattle.std.proofs.Common.{◌≡◌, ◌*◌, length, take}
use Rattle.sha1.specs.Sha1.{digest_bytes}
use Rattle.warc_lanes.proofs.chain.bytes_of.Given as goal

abbrev pub invariant-words : goal.invariant-words
invariant-words l = (length l.digest ≡ 20) × (take (4 * l.k) l.digest ≡ digest_bytes l.state l.k)

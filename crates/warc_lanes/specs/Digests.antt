-- What a contract sees of digests that are being computed (SHA-1 by FIPS 180-4): states of the code.
use Rattle.std.specs.Prelude.{◌≡◌, ℕ, ◌%◌, ◌^◌, ◌<◌, false, List, [], ◌∷◌, length}
use Rattle.sha1.specs.Sha1.{IsAbsorbed}
use Rattle.warc_lanes.specs.Lanes.{lane_of}
use Rattle.warc_lanes.specs.declared.FourDigests.{FourDigests}
use Rattle.warc_lanes.specs.declared.one.OneDigest.{OneDigest}

-- the words of the hash values, a vector for each
abbrev pub words_of : FourDigests → List (List ℕ)
words_of digests = digests.h0 ∷ digests.h1 ∷ digests.h2 ∷ digests.h3 ∷ digests.h4 ∷ []

-- the blocks that a lane took since it was begun, joined, are these bytes: none is left over
unfoldable pub LaneHasTaken : FourDigests → ℕ → List ℕ → Type 0
LaneHasTaken digests lane taken = IsAbsorbed (lane_of lane (words_of digests)) [] taken

-- the pieces of one message so far, joined, are these bytes
unfoldable pub DigestHasTaken : OneDigest → List ℕ → Type 0
DigestHasTaken digest taken = record {
  len_is : digest.len ≡ length taken % 2 ^ 64;
  absorbed : IsAbsorbed digest.state digest.buffer taken;
  short : digest.has_block ≡ false → length taken < 64;
}

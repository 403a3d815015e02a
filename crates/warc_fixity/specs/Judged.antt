-- Digests of bytes that come in pieces, verdicts on blocks by the digests that values state, and what contracts see of
-- digests, hashers and judges: states of the code.
use Rattle.std.specs.Prelude.{◌≡◌, ℕ, List, Option, Some, None, if◌then◌else◌}
use Rattle.std.specs.Str.{bytes_eq}
use Rattle.md5.specs.Md5.{Holds}
use Rattle.sha2.specs.Hashers.{Holds256, Holds384, Holds512}
use Rattle.warc_lanes.specs.Digests.{DigestHasTaken}
use Rattle.warc_value.specs.declared.hash.Verdict.{Verdict}
use Rattle.warc_value.specs.declared.hash.Verdict.TheVariants.{Good, Bad, Unchecked}
use Rattle.warc_value.specs.declared.hash.Wanted.{Wanted}
use Rattle.warc_value.specs.declared.hash.Wanted.TheVariants.{Sha1 as WantedSha1, Unchecked as NotWanted}
use Rattle.warc_fixity.specs.declared.names.Algorithm.{Algorithm}
use Rattle.warc_fixity.specs.declared.names.Algorithm.TheVariants as algorithm
use Rattle.warc_fixity.specs.declared.hasher.Digest.{Digest}
use Rattle.warc_fixity.specs.declared.hasher.Digest.TheVariants as digest
use Rattle.warc_fixity.specs.declared.hasher.Hasher.{Hasher}
use Rattle.warc_fixity.specs.declared.hasher.Hashing.{Hashing}
use Rattle.warc_fixity.specs.declared.hasher.Hashing.TheVariants as hashing
use Rattle.warc_fixity.specs.declared.judge.Judge.{Judge}
use Rattle.warc_fixity.specs.Stated.{block_hash}
use Rattle.warc_fixity.specs.Decoded.{stated_digest}

-- a digest as its algorithm and its bytes
abbrev pub digest_seen : Digest → Algorithm × List ℕ
digest_seen (digest.Md5 bytes) = (algorithm.Md5, bytes)
digest_seen (digest.Sha1 bytes) = (algorithm.Sha1, bytes)
digest_seen (digest.Sha256 bytes) = (algorithm.Sha256, bytes)
digest_seen (digest.Sha384 bytes) = (algorithm.Sha384, bytes)
digest_seen (digest.Sha512 bytes) = (algorithm.Sha512, bytes)

-- a running hash by an algorithm is of the bytes taken
abbrev pub HashesInto : Hashing → Algorithm → List ℕ → Type 0
HashesInto (hashing.Md5 state) by taken = (by ≡ algorithm.Md5) × Holds state taken
HashesInto (hashing.Sha1 state) by taken = (by ≡ algorithm.Sha1) × DigestHasTaken state taken
HashesInto (hashing.Sha256 state) by taken = (by ≡ algorithm.Sha256) × Holds256 state taken
HashesInto (hashing.Sha384 state) by taken = (by ≡ algorithm.Sha384) × Holds384 state taken
HashesInto (hashing.Sha512 state) by taken = (by ≡ algorithm.Sha512) × Holds512 state taken

-- a hasher was made for an algorithm, and all updates so far, joined, are these bytes
abbrev pub HasherHasTaken : Hasher → Algorithm → List ℕ → Type 0
HasherHasTaken hasher by taken = HashesInto hasher.hashing by taken

-- the verdict on a block by a digest, if there is one
abbrev pub verdict_if_stated : Option (Algorithm × List ℕ) → List ℕ → Verdict
verdict_if_stated None block = Unchecked
verdict_if_stated (Some (by, bytes)) block = if bytes_eq bytes (block_hash by block) then Good else Bad

-- the verdict on a block by the digest that a value states: none, if it states none
abbrev pub stated_verdict : List ℕ → List ℕ → Verdict
stated_verdict value block = verdict_if_stated (stated_digest value) block

-- a hasher has taken bytes beside a digest that is stated; there is no hasher if none is stated
abbrev pub IsChecking : Option (Hasher × Digest) → Option (Algorithm × List ℕ) → List ℕ → Type 0
IsChecking (Some (hasher, digest)) stated taken =
    (stated ≡ Some (digest_seen digest)) × HasherHasTaken hasher (digest_seen digest).0 taken
IsChecking None stated taken = stated ≡ None

-- a judge was made for a digest, or for none, and all updates so far, joined, are these bytes
abbrev pub JudgeHasTaken : Judge → Option (Algorithm × List ℕ) → List ℕ → Type 0
JudgeHasTaken judge stated taken = IsChecking judge.checking stated taken

-- the digest that is wanted of a block, and its algorithm
abbrev pub wanted_stated : Wanted → Option (Algorithm × List ℕ)
wanted_stated NotWanted = None
wanted_stated (WantedSha1 digest) = Some (algorithm.Sha1, digest)

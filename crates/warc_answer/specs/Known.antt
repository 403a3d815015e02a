-- What is known of blocks and of their payload before they are read again. This project's own notion.
use Rattle.std.specs.Prelude.{◌≡◌, ℕ, Bool, true, false, List, Some, ⊤}
use Rattle.warc_value.specs.declared.hash.Verdict.{Verdict}
use Rattle.warc_value.specs.declared.hash.Verdict.TheVariants.{Good, Bad, Unchecked}
use Rattle.warc_fixity.specs.Judged.{digest_seen}
use Rattle.warc_fixity.specs.Stated.{block_hash}
use Rattle.warc_fixity.specs.declared.hasher.Digest.{Digest}
use Rattle.warc_answer.specs.Hashed.{HasPayload, StoredPayload}

-- a verdict on blocks is right, by whether one of them is bad: `Unchecked` says nothing of them
abbrev pub Agrees : Verdict → Bool → Type 0
Agrees Good bad = bad ≡ false
Agrees Bad bad = bad ≡ true
Agrees Unchecked bad = ⊤

-- a digest is that of the payload in a block, if the block has one
abbrev pub IsDigestOfAny : Bool → List ℕ → Digest → Type 0
IsDigestOfAny http block digest = (p : StoredPayload) → HasPayload http block (Some p)
    → (digest_seen digest).1 ≡ block_hash (digest_seen digest).0 p.bytes

-- How a lane's hash value follows the blocks that it takes, up to the digest.
use Rattle.std.proofs.Common.{◌≡◌, ℕ, ◌+◌, ◌*◌, ◌/◌, ◌%◌, ◌≤◌, List, [], ◌++◌, length, take, drop, arith, refl, ap, ◌∙◌}
use Rattle.std.proofs.lemmas.List.{length-take, length-take-le, length-drop}
use Rattle.std.specs.Borrow.{Bor}
use Rattle.sha1.specs.Sha1.{IsAbsorbed, compress, digest_bytes, hash_after, initial_hash, padded_message, sha1}
use Rattle.sha1.proofs.Absorbing.{IsAbsorbed_block}
use Rattle.warc_lanes.specs.Lanes.{InEachLane, shortest, bytes_in}
use Rattle.warc_lanes.proofs.LaneLemmas.{of_lanes}

-- no text is shorter than the shortest
pub shortest_le : (texts : List (Bor (List ℕ))) → InEachLane (λ j. shortest texts ≤ length (bytes_in j texts))
shortest_le texts = of_lanes _ (omega arith) (omega arith) (omega arith) (omega arith)

-- the hash value of no block
pub none_absorbed : (hash : List ℕ) → hash ≡ initial_hash → IsAbsorbed hash [] []
unfolding hash_after
none_absorbed hash initial = (initial, refl)

-- where nothing is left over, the bytes are whole blocks
pub absorbed_is_whole : (hash m : List ℕ) → IsAbsorbed hash [] m → length m % 64 ≡ 0
absorbed_is_whole hash m held = omega (arith, length-take {A = ℕ} (length m % 64) [], length-drop (length m / 64 * 64) m, ap length held.1)

-- one block more of a text
pub one_more : (hash m text block : List ℕ) (i : ℕ) (start : List ℕ) → IsAbsorbed start [] m → IsAbsorbed hash [] (m ++ take (64 * i) text)
    → 64 * i + 64 ≤ length text → block ≡ take 64 (drop (64 * i) text) → IsAbsorbed (compress hash block) [] (m ++ take (64 * (i + 1)) text)
one_more hash m text block i start begun held fits is =
    let whole : length m % 64 ≡ 0 = absorbed_is_whole start m begun in
    let next : 64 * (i + 1) ≡ 64 * i + 64 = omega arith in
    rw next (IsAbsorbed_block hash [] m text block (64 * i) held (omega arith) fits is)

-- the digest of a message that was taken with its padding
pub digest_is : (hash message : List ℕ) → IsAbsorbed hash [] (padded_message message) → digest_bytes hash 5 ≡ sha1 message
unfolding sha1
digest_is hash message held = ap (λ (h : List ℕ). digest_bytes h 5) held.0

-- what is absorbed into a hash value is absorbed into an equal one
pub absorbed_along : (new old m : List ℕ) → new ≡ old → IsAbsorbed old [] m → IsAbsorbed new [] m
absorbed_along new old m same held = (same ∙ held.0, held.1)

-- a block is 64 bytes long
pub length-block : (text : List ℕ) (at : ℕ) → at + 64 ≤ length text → length (take 64 (drop at text)) ≡ 64
length-block text at fits = length-take-le 64 (drop at text) (omega (arith, length-drop at text))

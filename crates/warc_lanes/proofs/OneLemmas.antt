-- How one hash value follows a message that comes in pieces of any length.
use Rattle.std.proofs.Common.{◌≡◌, ℕ, ◌+◌, ◌-◌, ◌*◌, ◌/◌, ◌%◌, ◌^◌, ◌<◌, ◌≤◌, List, [], ◌++◌, length, take, drop, arith, refl, ap, sym, ◌∙◌, append_assoc}
use Rattle.std.proofs.Math.Seq.{take-add}
use Rattle.std.proofs.lemmas.List.{drop_all, length-drop, length-take-le, take-append-drop, take_all}
use Rattle.std.proofs.lemmas.Slice.{take-put_mid}
use Rattle.sha1.specs.Sha1.{IsAbsorbed, hash_after, padded_message, padding}
use Rattle.sha1.proofs.Absorbing.{IsAbsorbed_short, hash_after-append}
use Rattle.warc_lanes.proofs.DigestLemmas.{absorbed_is_whole}
use borrow.Rule.Slice.PartMut.{put_mid}

-- a part of a text more was taken
pub more_of_text : (hash taken text part : List ℕ) (done end : ℕ) → done ≤ end → part ≡ take (end - done) (drop done text)
    → IsAbsorbed hash [] ((taken ++ take done text) ++ part) → IsAbsorbed hash [] (taken ++ take end text)
more_of_text hash taken text part done end order is held =
    let whole : done + (end - done) ≡ end = omega arith in
    let joined : take done text ++ part ≡ take end text =
    ap (λ (xs : List ℕ). take done text ++ xs) is ∙ sym (take-add done (end - done) text) ∙ ap (λ (n : ℕ). take n text) whole in
    let same : (taken ++ take done text) ++ part ≡ taken ++ take end text =
    append_assoc taken (take done text) part ∙ ap (λ (xs : List ℕ). taken ++ xs) joined in
    rw (← same) held

-- the whole blocks of a message are absorbed
pub whole_absorbed : (hash buffer m : List ℕ) → IsAbsorbed hash buffer m → IsAbsorbed hash [] (take (length m / 64 * 64) m)
whole_absorbed hash buffer m held =
    let q : ℕ = length m / 64 in
    let whole : List ℕ = take (q * 64) m in
    let long : length whole ≡ q * 64 = length-take-le (q * 64) m (omega arith) in
    let count : length whole / 64 ≡ q = omega arith in
    let none : length whole % 64 ≡ 0 = omega arith in (
      held.0 ∙ ap (λ (xs : List ℕ). hash_after xs q) (sym (take-append-drop (q * 64) m)) ∙ hash_after-append whole (drop (q * 64) m) q (omega arith)
          ∙ ap (hash_after whole) (sym count),
      rw (none, count) (sym (drop_all (q * 64) whole (omega arith))),
    )

-- the last bytes of a message follow its whole blocks
pub whole_and_last : (hash buffer m rest : List ℕ) → IsAbsorbed hash buffer m
    → take (length m / 64 * 64) m ++ (take (length m % 64) buffer ++ rest) ≡ m ++ rest
whole_and_last hash buffer m rest held =
    let at : ℕ = length m / 64 * 64 in
    ap (λ (xs : List ℕ). take at m ++ (xs ++ rest)) held.1 ∙ sym (append_assoc (take at m) (drop at m) rest)
    ∙ ap (λ (xs : List ℕ). xs ++ rest) (take-append-drop at m)

-- bytes that leave the buffer short of a block
pub put_in_buffer : (hash buffer m d part : List ℕ) (used j : ℕ) → IsAbsorbed hash buffer m → length buffer ≡ 64 → used ≡ length m % 64
    → used + length d < 64 → part ≡ d → IsAbsorbed hash (put_mid used j buffer part) (m ++ d)
put_in_buffer hash buffer m d part used j held long at short is =
    let placed : take (used + length d) (put_mid used j buffer part) ≡ take used buffer ++ d =
    rw is (take-put_mid used j buffer d (used + length d) refl (omega arith)) in
    IsAbsorbed_short hash buffer (put_mid used j buffer part) m d held (omega arith) (rw (← at) placed)

-- bytes that complete the block in the buffer
pub completed : (buffer part : List ℕ) (used j : ℕ) → length buffer ≡ 64 → length (put_mid used j buffer part) ≡ 64 → used + length part ≡ 64
    → put_mid used j buffer part ≡ take used buffer ++ part
completed buffer part used j long new_long full =
    sym (take_all 64 (put_mid used j buffer part) (omega arith)) ∙ take-put_mid used j buffer part 64 (omega arith) (omega arith)

-- the block in the buffer was completed and added
pub block_completed : (hash next buffer m part block : List ℕ) (used : ℕ) → IsAbsorbed hash buffer m → used ≡ length m % 64 → block ≡ take used buffer ++ part
    → IsAbsorbed next [] (take (length m / 64 * 64) m ++ block) → IsAbsorbed next [] (m ++ part)
block_completed hash next buffer m part block used held at is added =
    let same : take (length m / 64 * 64) m ++ block ≡ m ++ part =
    ap (λ (xs : List ℕ). take (length m / 64 * 64) m ++ xs) (is ∙ ap (λ (n : ℕ). take n buffer ++ part) at) ∙ whole_and_last hash buffer m part held in
    rw (← same) added

-- the bytes after the last whole block are at the front of the buffer
pub put_rest : (hash buffer taken d rest : List ℕ) (end : ℕ) → IsAbsorbed hash [] (taken ++ take end d) → end ≤ length d → length d - end < 64
    → rest ≡ drop end d → take (length rest) buffer ≡ rest → IsAbsorbed hash buffer (taken ++ d)
put_rest hash buffer taken d rest end held within short is front =
    let none : length (taken ++ take end d) % 64 ≡ 0 = absorbed_is_whole hash (taken ++ take end d) held in
    let long : length rest ≡ length d - end = ap length is ∙ length-drop end d in
    let count : length (taken ++ take end d) % 64 + length rest ≡ length rest = omega arith in
    let placed : take (length (taken ++ take end d) % 64 + length rest) buffer ≡ take {A = ℕ} (length (taken ++ take end d) % 64) [] ++ rest = rw (count, none) front in
    let whole : (taken ++ take end d) ++ rest ≡ taken ++ d =
    append_assoc taken (take end d) rest ∙ ap (λ (xs : List ℕ). taken ++ xs) (ap (λ (xs : List ℕ). take end d ++ xs) is ∙ take-append-drop end d) in
    rw (← whole) (IsAbsorbed_short hash [] buffer (taken ++ take end d) rest held (omega arith) placed)

-- a message without a whole block is in the buffer
pub short_message : (hash buffer m : List ℕ) (used : ℕ) → IsAbsorbed hash buffer m → length m < 64 → used ≡ length m % 64 → take used buffer ≡ m
short_message hash buffer m used held short at =
    let none : length m / 64 * 64 ≡ 0 = omega arith in
    ap (λ (n : ℕ). take n buffer) at ∙ held.1 ∙ ap (λ (n : ℕ). drop n m) none

-- the padding gives the length modulo 2 ^ 64 alone
pub padding_of : (len n : ℕ) → len ≡ n % 2 ^ 64 → padding len ≡ padding n
padding_of len n is =
    let used : len % 64 ≡ n % 64 = omega arith in
    let bits : len * 8 % 2 ^ 64 ≡ n * 8 % 2 ^ 64 = omega arith in
    rw (used, bits) refl

-- the digest of a message whose last bytes were taken with the padding
pub one_digest_is : (hash next buffer m last : List ℕ) (used len : ℕ) → IsAbsorbed hash buffer m → used ≡ length m % 64 → len ≡ length m % 2 ^ 64
    → last ≡ take used buffer ++ padding len → IsAbsorbed next [] (take (length m / 64 * 64) m ++ last) → IsAbsorbed next [] (padded_message m)
one_digest_is hash next buffer m last used len held at is_len is added =
    block_completed hash next buffer m (padding (length m)) last used held at
    (is ∙ ap (λ (xs : List ℕ). take used buffer ++ xs) (padding_of len (length m) is_len)) added

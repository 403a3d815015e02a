-- For callers: what joins the blocks of a message and its padding.
use Rattle.std.proofs.Common.{◌≡◌, ℕ, ◌+◌, ◌-◌, ◌*◌, ◌/◌, ◌%◌, ◌^◌, ◌<◌, ◌≤◌, List, [], ◌∷◌, ◌++◌, length, take, drop, replicate, arith, refl, ap, sym, ◌∙◌, append_assoc}
use Rattle.std.proofs.lemmas.List.{length-append, length-drop, length-replicate, length-take-le, take-append-drop, take_at, take_all}
use Rattle.std.specs.Borrow.{Bor}
use Rattle.std.specs.Int.{w64, to_be_bytes}
use Rattle.sha1.specs.Sha1.{padded_message, padding}
use Rattle.warc_lanes.specs.declared.FourDigests.{FourDigests}
use Rattle.warc_lanes.specs.Digests.{LaneHasTaken}
use Rattle.warc_lanes.specs.Lanes.{InEachLane, bytes_in, shortest}
use Rattle.warc_lanes.proofs.LaneLemmas.{of_lanes}

-- the blocks of a message that were taken, and its last bytes with their padding
pub blocks_and_last : (m whole last : List ℕ) (done : ℕ) → whole ≡ take done m → last ≡ drop done m ++ padding (length m)
    → whole ++ last ≡ padded_message m
blocks_and_last m whole last done first rest =
    rw (first, rest) (sym (append_assoc (take done m) (drop done m) (padding (length m))) ∙ ap (λ (xs : List ℕ). xs ++ padding (length m)) (take-append-drop done m))

pub length-padding : (n : ℕ) → length (padding n) ≡ 9 + (119 - n % 64) % 64
length-padding n =
    let zeros : List ℕ = replicate ((119 - n % 64) % 64) 0 in
    let bits : List ℕ = to_be_bytes w64 (n * 8 % 2 ^ 64) in
    let long : length bits ≡ 8 = refl in
    omega (arith, length-append zeros bits, length-replicate {A = ℕ} ((119 - n % 64) % 64) 0)

-- the last bytes of a message with their padding are whole blocks
pub last_is_whole : (m last : List ℕ) (done : ℕ) → done % 64 ≡ 0 → done ≤ length m → last ≡ drop done m ++ padding (length m) → length last % 64 ≡ 0
last_is_whole m last done blocks within is =
    omega (arith, ap length is, length-append (drop done m) (padding (length m)), length-drop done m, length-padding (length m))

-- the front of a buffer that `pad` has written to
pub padded_front : (old new tail pad : List ℕ) (used end : ℕ) → take used old ≡ tail → used ≤ length old → end ≡ used + length pad
    → new ≡ take used old ++ pad ++ drop end old → take end new ≡ tail ++ pad
padded_front old new tail pad used end kept within ends written =
    let long : end ≡ length (tail ++ pad) = omega (arith, length-append tail pad, ap length kept, length-take-le used old within) in
    ap (take end) written ∙ rw kept (take_at (tail ++ pad) (drop end old) end (sym long))

-- a piece that each lane is given
pub same_in_lanes : (piece : Bor (List ℕ)) → InEachLane (λ j. bytes_in j (piece ∷ piece ∷ piece ∷ piece ∷ []) ≡ piece.now)
same_in_lanes piece = of_lanes _ refl refl refl refl

-- it is taken whole, where it is whole blocks
pub whole_piece : (piece : Bor (List ℕ)) (j taken : ℕ) → j < 4 → length piece.now % 64 ≡ 0
    → taken ≡ shortest (piece ∷ piece ∷ piece ∷ piece ∷ []) / 64 * 64 → take taken (bytes_in j (piece ∷ piece ∷ piece ∷ piece ∷ [])) ≡ piece.now
whole_piece piece j taken below whole is =
    ap (take taken) (same_in_lanes piece j below) ∙ take_all taken piece.now (omega arith)

-- a lane has taken bytes that are equal
pub taken_along : (digests : FourDigests) (lane : ℕ) (old new : List ℕ) → LaneHasTaken digests lane old → old ≡ new → LaneHasTaken digests lane new
taken_along digests lane old new held same = rw (← same) held

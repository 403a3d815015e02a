-- The padding of a message, written into a buffer in three steps.
use Rattle.std.proofs.Common.{◌≡◌, ℕ, ◌+◌, ◌≤◌, List, [], ◌∷◌, ◌++◌, length, take, drop, slice_set, arith, sym, ap, ap₂, ◌∙◌, append_assoc}
use Rattle.std.proofs.lemmas.List.{take-append-drop, length-append, length-take-le, length-drop, take_more_set, drop-set-lt, length-set}
use Rattle.std.proofs.lemmas.Slice.{take-put_mid, drop-put_mid}
use borrow.Rule.Slice.PartMut.{put_mid}

-- a write to a part leaves the length
pub length-written : (s ys : List ℕ) (k j : ℕ) → k + j ≤ length s → length ys ≡ j → length (put_mid k j s ys) ≡ length s
length-written s ys k j fits long =
    let new : List ℕ = put_mid k j s ys in
    let front : take (k + j) new ≡ take k s ++ ys = take-put_mid k j s ys (k + j) (omega arith) (omega arith) in
    let rest : drop (k + j) new ≡ drop (k + j) s = drop-put_mid k j s ys (k + j) (omega arith) (omega arith) long in
    let whole : length (take (k + j) new ++ drop (k + j) new) ≡ length new = ap length (take-append-drop (k + j) new) in
    omega (
      arith,
      length-append (take (k + j) new) (drop (k + j) new),
      ap length front,
      length-append (take k s) ys,
      length-take-le k s (omega arith),
      ap length rest,
      length-drop (k + j) s,
    )

-- a byte, then a part, then another part right after it
pub three_written : (s zeros bits : List ℕ) (byte k z i j n : ℕ) → n ≤ length s → n ≡ k + 1 + z + length bits → length zeros ≡ z → i ≡ z → j ≡ length bits
    → put_mid (k + 1 + z) j (put_mid (k + 1) i (slice_set s k byte) zeros) bits ≡ take k s ++ byte ∷ (zeros ++ bits) ++ drop n s
three_written s zeros bits byte k z i j n fits end zl iz jl =
    let one : List ℕ = slice_set s k byte in
    let two : List ℕ = put_mid (k + 1) i one zeros in
    let three : List ℕ = put_mid (k + 1 + z) j two bits in
    let one_long : length one ≡ length s = length-set s k byte in
    let two_long : length two ≡ length s = length-written one zeros (k + 1) i (omega arith) (omega arith) ∙ one_long in
    let begin : take (k + 1) one ≡ take k s ++ byte ∷ [] = take_more_set s k byte (omega arith) in
    let middle : take (k + 1 + z) two ≡ take (k + 1) one ++ zeros = take-put_mid (k + 1) i one zeros (k + 1 + z) (omega arith) (omega arith) in
    let front : take n three ≡ take (k + 1 + z) two ++ bits = take-put_mid (k + 1 + z) j two bits n (omega arith) (omega arith) in
    let rest : drop n three ≡ drop n s =
    drop-put_mid (k + 1 + z) j two bits n (omega arith) (omega arith) (omega arith)
    ∙ drop-put_mid (k + 1) i one zeros n (omega arith) (omega arith) (omega arith) ∙ drop-set-lt n s k byte (omega arith) in
    let joined : take n three ≡ take k s ++ byte ∷ (zeros ++ bits) = front ∙ rw (middle, begin) (simp append_assoc) in
    sym (take-append-drop n three) ∙ ap₂ (λ (xs ys : List ℕ). xs ++ ys) joined rest

-- The pieces of a message and its padding: of its whole blocks, then of its tail.
use Rattle.std.proofs.Common.{◌≡◌, ℕ, ◌+◌, ◌-◌, ◌*◌, ◌/◌, ◌%◌, ◌<◌, ◌≤◌, List, ◌++◌, length, take, drop, arith, refl, ap, ap₂, sym, ◌∙◌}
use Rattle.std.proofs.lemmas.List.{drop-append-le, drop-drop, drop-take, length-append, length-drop, length-take, length-take-le, take-append-drop, take-append-le, take-take, take_all}
use Rattle.std.proofs.lemmas.Slice.{between_is}
use Rattle.sha1.specs.Sha1.{padded_message, padding}
use Rattle.warc_lanes.specs.Messages.{IsNextPiece}
use Rattle.warc_lanes.proofs.CallerLemmas.{last_is_whole, length-padding}

pub padded_is_whole : (m : List ℕ) → length (padded_message m) % 64 ≡ 0
padded_is_whole m = last_is_whole m (padded_message m) 0 refl (omega arith) refl

pub padded_is_some : (m : List ℕ) → 0 < length (padded_message m)
padded_is_some m = omega (arith, length-append m (padding (length m)), length-padding (length m))

-- what is kept of a message: the last bytes and the padding, in a buffer
pub padded_kept : (m last tail : List ℕ) (whole end : ℕ) → whole ≡ length m / 64 * 64 → last ≡ drop whole m
    → take end tail ≡ last ++ padding (length m) → end ≤ length tail
    → (whole + end ≡ length (padded_message m)) × (take (whole + end - length m / 64 * 64) tail ≡ drop (length m / 64 * 64) (padded_message m))
padded_kept m last tail whole end at is front fits =
    let pad : List ℕ = padding (length m) in
    let long : end ≡ length last + length pad = sym (length-take-le end tail fits) ∙ ap length front ∙ length-append last pad in
    let rest : length last ≡ length m - whole = ap length is ∙ length-drop whole m in
    let ends : whole + end - length m / 64 * 64 ≡ end = omega arith in (
      omega (arith, length-append m pad),
      ap (λ (n : ℕ). take n tail) ends ∙ front ∙ ap (λ (xs : List ℕ). xs ++ pad) is ∙ sym (drop-append-le whole m pad (omega arith))
          ∙ ap (λ (n : ℕ). drop n (padded_message m)) at,
    )

-- a piece of the message's own blocks
pub piece_of_blocks : (m piece : List ℕ) (left done whole : ℕ) → whole ≡ length m / 64 * 64 → done ≡ length (padded_message m) - left → left % 64 ≡ 0
    → left ≤ length (padded_message m) → done < whole → piece ≡ take (whole - done) (drop done m) → IsNextPiece m left piece
piece_of_blocks m piece left done whole ends at blocks within before is =
    let pad : List ℕ = padding (length m) in
    let n : ℕ = whole - done in
    let room : n ≤ length (drop done m) = omega (arith, length-drop done m) in
    let long : length piece ≡ n = ap length is ∙ length-take-le n (drop done m) room in
    let done_whole : done % 64 ≡ 0 = omega (arith, padded_is_whole m) in
    let cut : drop done (padded_message m) ≡ drop done m ++ pad = drop-append-le done m pad (omega arith) in
    record {
      some = omega arith;
      blocks = omega arith;
      is = is ∙ sym (take-append-le n (drop done m) pad room) ∙ ap₂ (λ (k : ℕ) (xs : List ℕ). take k xs) (sym long) (sym cut)
          ∙ ap (λ (d : ℕ). take (length piece) (drop d (padded_message m))) at;
    }

-- a piece of its tail
pub piece_of_tail : (m tail piece : List ℕ) (len left done whole : ℕ) → whole ≡ length m / 64 * 64 → len ≡ length (padded_message m) → done ≡ len - left → 0 < left
    → left ≤ len → left % 64 ≡ 0 → whole ≤ done → take (len - whole) tail ≡ drop whole (padded_message m)
    → piece ≡ take (len - whole - (done - whole)) (drop (done - whole) tail) → IsNextPiece m left piece
piece_of_tail m tail piece len left done whole at len_is done_is left_some within blocks after kept is =
    let p : List ℕ = padded_message m in
    let sum : whole + (done - whole) ≡ done = omega arith in
    let same : piece ≡ drop done p =
    is ∙ between_is tail (done - whole) (len - whole) ∙ ap (drop (done - whole)) kept ∙ drop-drop (done - whole) whole p ∙ ap (λ (d : ℕ). drop d p) sum in
    let long : length piece ≡ left = ap length same ∙ length-drop done p ∙ omega arith in
    let start : done ≡ length p - left = omega arith in
    record {
      some = omega arith;
      blocks = omega arith;
      is = same ∙ sym (take_all (length piece) (drop done p) (omega (arith, length-drop done p))) ∙ ap (λ (d : ℕ). take (length piece) (drop d p)) start;
    }

-- a piece is no longer than what is left
pub piece_within : (m piece : List ℕ) (left : ℕ) → IsNextPiece m left piece → left ≤ length (padded_message m) → length piece ≤ left
piece_within m piece left next within =
    let p : List ℕ = padded_message m in
    omega (arith, ap length next.is, length-take (length piece) (drop (length p - left) p), length-drop (length p - left) p)

-- two parts of a list that follow each other
parts_joined : (p : List ℕ) (d n : ℕ) → take d p ++ take n (drop d p) ≡ take (d + n) p
parts_joined p d n =
    ap₂ (λ (xs ys : List ℕ). xs ++ ys) (sym (take-take d (d + n) p (omega arith))) (sym (drop-take d n p)) ∙ take-append-drop d (take (d + n) p)

-- what was taken, with the front of the next piece
pub more_taken : (m piece : List ℕ) (len left n : ℕ) → len ≡ length (padded_message m) → left ≤ len → IsNextPiece m left piece → n ≤ length piece
    → take (len - left) (padded_message m) ++ take n piece ≡ take (len - (left - n)) (padded_message m)
more_taken m piece len left n len_is within next fits =
    let p : List ℕ = padded_message m in
    let d : ℕ = len - left in
    let long : length piece ≤ left = piece_within m piece left next (omega arith) in
    let start : length p - left ≡ d = omega arith in
    let end : d + n ≡ len - (left - n) = omega arith in
    let front : take n piece ≡ take n (drop d p) =
    ap (take n) next.is ∙ take-take n (length piece) (drop (length p - left) p) fits ∙ ap (λ (e : ℕ). take n (drop e p)) start in
    ap (λ (xs : List ℕ). take d p ++ xs) front ∙ parts_joined p d n ∙ ap (λ (e : ℕ). take e p) end

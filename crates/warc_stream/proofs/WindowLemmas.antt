-- A piece of a source, and its front in a buffer.
use Rattle.std.proofs.Common.{◌≡◌, ℕ, ◌+◌, ◌-◌, ◌<◌, ◌≤◌, List, ◌++◌, length, take, drop, Result, Ok, Err, IfOk, sym, ap, subst, ◌∙◌, arith}
use Rattle.std.proofs.lemmas.List.{drop-drop, drop-take, length-drop, length-take-le, take-append-le, take-take}
use Rattle.warc_frame.specs.Device.{Gives}
use Rattle.warc_stream.specs.Window.{IsCopiedFront, IsPieceOf}

-- what is after the first k bytes of a front
pub rest_of_front : (k len : ℕ) (xs : List ℕ) → k ≤ len → drop k (take len xs) ≡ take (len - k) (drop k xs)
rest_of_front k len xs below =
    let whole : k + (len - k) ≡ len = omega arith in
    subst (λ n. drop k (take n xs) ≡ take (len - k) (drop k xs)) whole (drop-take k (len - k) xs)

-- what a buffer has of a piece from an offset on is a piece
pub rest_there : (bytes items : List ℕ) (len from at : ℕ) → IsPieceOf bytes from (take len items) → len ≤ length items
    → from ≤ at → at - from ≤ len → IsPieceOf bytes at (take (len - (at - from)) (drop (at - from) items))
rest_there bytes items len from at is short following below =
    let k = at - from in
    let place : from + k ≡ at = omega (arith, following) in
    let rest = rest_of_front k len items below in
    let whole : length (take len items) ≡ len = length-take-le len items short in
    let count : length (take (len - k) (drop k items)) ≡ len - k =
    length-take-le (len - k) (drop k items) (omega (arith, length-drop k items, short)) in record {
      same = sym rest ∙ ap (drop k) is.same
          ∙ ap (λ n. drop k (take n (drop from bytes))) whole
          ∙ rest_of_front k len (drop from bytes) below
          ∙ ap (take (len - k)) (drop-drop k from bytes ∙ ap (λ q. drop q bytes) place)
          ∙ ap (λ n. take n (drop at bytes)) (sym count);
      within = omega (arith, count, is.within, whole);
    }

-- what a read gives whose buffer begins with the front of a piece
pub front_gives : (bytes rest old new : List ℕ) (at n : ℕ) → IsPieceOf bytes at rest → IsCopiedFront rest old new n
    → (at < length bytes → 0 < length rest) → length new ≡ length old → Gives bytes at new n
front_gives bytes rest old new at n is front some same_length =
    let few : n ≤ length rest = omega (arith, front.count_is) in record {
      same = front.same ∙ ap (take n) is.same ∙ take-take n (length rest) (drop at bytes) few;
      within = omega (arith, few, is.within);
      some = λ before room. omega (arith, front.count_is, some before, same_length, room);
    }

-- from its own offset on it is the whole piece
pub whole_there : (items : List ℕ) (len from at : ℕ) → from ≡ at
    → take (len - (at - from)) (drop (at - from) items) ≡ take len items
whole_there items len from at same =
    let none : at - from ≡ 0 = omega (arith, same) in
    let all : len - (at - from) ≡ len = omega (arith, same) in
    ap (λ n. take n (drop (at - from) items)) all ∙ ap (λ k. take len (drop k items)) none

-- what a read gives of a source is a piece, also at the front of a longer buffer
pub piece_read : (bytes buf rest : List ℕ) (at n : ℕ) → n ≤ length buf → Gives bytes at buf n
    → IsPieceOf bytes at (take n (buf ++ rest))
piece_read bytes buf rest at n bound gives =
    let front = take-append-le n buf rest bound in
    let count : length (take n (buf ++ rest)) ≡ n = ap length front ∙ length-take-le n buf bound in record {
      same = front ∙ gives.same ∙ ap (λ k. take k (drop at bytes)) (sym count);
      within = omega (arith, count, gives.within);
    }

-- so it is where the read may fail
pub piece_if_read : {E : Type 0} (bytes buf rest : List ℕ) (at : ℕ) (r : Result ℕ E) → IfOk r (λ n. n ≤ length buf)
    → IfOk r (Gives bytes at buf) → IfOk r (λ n. IsPieceOf bytes at (take n (buf ++ rest)))
piece_if_read bytes buf rest at (Ok n) bound gives = piece_read bytes buf rest at n bound gives
piece_if_read bytes buf rest at (Err e) bound gives = tt

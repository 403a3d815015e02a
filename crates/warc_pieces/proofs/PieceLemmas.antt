-- The first pieces of a text, one after another.
use Rattle.std.proofs.Common.{◌≡◌, ℕ, ◌+◌, ◌-◌, ◌≤◌, List, [], ◌∷◌, ◌++◌, length, length-append, drop, Option, refl, sym, ap, subst, ◌∙◌, arith}
use Rattle.std.proofs.lemmas.List.{drop-drop, length-drop}
use Rattle.warc_frame.specs.declared.fault.Fault.{Fault}
use Rattle.warc_pieces.specs.Pieces.{AreFirst, ArePiecesFrom, IsPiece, IsRun, piece_len}
use Rattle.warc_pieces.specs.declared.piece.Piece.{Piece}
use Rattle.warc_pieces.specs.declared.piece.Piece.TheVariants.{Records, Damage}

pub no_bytes : (text : List ℕ) → length text ≡ 0 → text ≡ []
no_bytes [] is = refl
no_bytes (b ∷ bs) is = absurd (omega (arith, is))

-- a run is in its text
pub run_within : (at : ℕ) (text : List ℕ) (count len : ℕ) (found : Option Fault) → IsRun at text count len found → len ≤ length text
run_within at text count len found run =
    omega (arith, run.len_is, ap length run.reads.text, length-append run.reads.front run.reads.rest)

-- a piece is in its text
pub piece_within : (at : ℕ) (text : List ℕ) (piece : Piece) → IsPiece at text piece → piece_len piece ≤ length text
piece_within at text (Records offset len count) (is, some, found, run) = run_within at text count len found run
piece_within at text (Damage offset len fault) (is, damage) = damage.within

-- the first pieces end where they begin, or after
pub first_after : (at : ℕ) (text : List ℕ) (pieces : List Piece) (end : ℕ) → AreFirst at text pieces end → at ≤ end
first_after at text [] end is = omega (arith, is)
first_after at text (piece ∷ pieces) end (one, more) =
    let later = first_after (at + piece_len piece) (drop (piece_len piece) text) pieces end more in
    omega (arith, later)

-- they end where the text does, or before
pub first_within : (at : ℕ) (text : List ℕ) (pieces : List Piece) (end : ℕ) → AreFirst at text pieces end → end ≤ at + length text
first_within at text [] end is = omega (arith, is)
first_within at text (piece ∷ pieces) end (one, more) =
    let n = piece_len piece in
    let later = first_within (at + n) (drop n text) pieces end more in
    omega (arith, later, length-drop n text, piece_within at text piece one)

-- what follows is the same, from whichever piece on it is counted
pub rest_same : (at n end : ℕ) (text : List ℕ) → at + n ≤ end → drop (end - (at + n)) (drop n text) ≡ drop (end - at) text
rest_same at n end text low =
    let e : n + (end - (at + n)) ≡ end - at = omega (arith, low) in
    drop-drop (end - (at + n)) n text ∙ ap (λ k. drop k text) e

-- one more piece, which begins where the first pieces end
pub one_more : (at : ℕ) (text : List ℕ) (pieces : List Piece) (end : ℕ) (next : Piece) → AreFirst at text pieces end
    → IsPiece end (drop (end - at) text) next → AreFirst at text (pieces ++ next ∷ []) (end + piece_len next)
one_more at text [] end next is last =
    let none : end - at ≡ 0 = omega (arith, is) in
    let Q : List ℕ → Type 0 = λ t. IsPiece end t next in
    let here : IsPiece end text next = subst Q (ap (λ k. drop k text) none) last in
    let R : ℕ → Type 0 = λ k. IsPiece k text next in
    (subst R is here, ap (λ k. k + piece_len next) is)
one_more at text (piece ∷ pieces) end next (one, more) last =
    let n = piece_len piece in
    let low = first_after (at + n) (drop n text) pieces end more in
    let Q : List ℕ → Type 0 = λ t. IsPiece end t next in
    (one, one_more (at + n) (drop n text) pieces end next more (subst Q (sym (rest_same at n end text low)) last))

-- first pieces that end where the text does are all of its pieces
pub all_pieces : (at : ℕ) (text : List ℕ) (pieces : List Piece) (end : ℕ) → AreFirst at text pieces end
    → end ≡ at + length text → ArePiecesFrom at text pieces
all_pieces at text [] end is whole = no_bytes text (omega (arith, is, whole))
all_pieces at text (piece ∷ pieces) end (one, more) whole =
    let n = piece_len piece in
    let low = first_after (at + n) (drop n text) pieces end more in
    let inside = piece_within at text piece one in
    (one, all_pieces (at + n) (drop n text) pieces end more (omega (arith, low, length-drop n text, inside, whole)))

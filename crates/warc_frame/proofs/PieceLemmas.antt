-- Outputs that are put together from pieces.
use Rattle.std.proofs.Common.{◌≡◌, ℕ, ◌+◌, ◌<◌, List, [], ◌∷◌, ◌++◌, length, take, drop, get_or, append_assoc, map, Bor, sym, ap, ◌∙◌}
use Rattle.std.proofs.lemmas.List.{append-nil, map-append, take_more, take-append-drop}
use Rattle.std.proofs.lemmas.List.Folds.{concat-append}
use Rattle.std.specs.List.{concat}

-- a column, and the byte that ends it
abbrev pub ended : Bor (List ℕ) × ℕ → List ℕ
ended c = c.0.now ++ c.1 ∷ []

-- one more piece, and the pieces after it
pub pieces_more : {X : Type 0} (text : X → List ℕ) (output : List ℕ) (pieces : List X) (i : ℕ) (d : X) → i < length pieces
    → (output ++ concat (map text (take i pieces))) ++ text (get_or pieces i d) ≡ output ++ concat (map text (take (i + 1) pieces))
pieces_more text output pieces i d lt =
    let last = ap (λ l. concat (map text l)) (take_more pieces i d lt) ∙ ap concat (map-append text (take i pieces) (get_or pieces i d ∷ []))
    ∙ concat-append (map text (take i pieces)) (text (get_or pieces i d) ∷ [])
    ∙ ap (λ l. concat (map text (take i pieces)) ++ l) (append-nil (text (get_or pieces i d))) in
    append_assoc output (concat (map text (take i pieces))) (text (get_or pieces i d)) ∙ ap (λ l. output ++ l) (sym last)

pub pieces_rest : {X : Type 0} (text : X → List ℕ) (output : List ℕ) (pieces : List X) (i : ℕ)
    → (output ++ concat (map text (take i pieces))) ++ concat (map text (drop i pieces)) ≡ output ++ concat (map text pieces)
pieces_rest text output pieces i =
    append_assoc output (concat (map text (take i pieces))) (concat (map text (drop i pieces)))
    ∙ ap (λ l. output ++ l) (sym (concat-append (map text (take i pieces)) (map text (drop i pieces)))
    ∙ ap concat (sym (map-append text (take i pieces) (drop i pieces))) ∙ ap (λ l. concat (map text l)) (take-append-drop i pieces))

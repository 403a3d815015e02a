-- Texts of the items of a list, one after another.
use Rattle.std.proofs.Common.{◌≡◌, ℕ, ◌+◌, ◌<◌, ◌≤◌, List, [], ◌∷◌, ◌++◌, length, take, drop, get_or, append_assoc, flat_map, refl, sym, ap, ◌∙◌, arith}
use Rattle.std.proofs.lemmas.Grind.{flat_map-append}
use Rattle.std.proofs.lemmas.List.{append-nil, take_more, length-take-le, take-append-drop}
use Rattle.std.specs.List.{enumerate_from}

pub flat_more : {X : Type 0} (text : X → List ℕ) (output : List ℕ) (xs : List X) (i : ℕ) (d : X) → i < length xs
    → (output ++ flat_map text (take i xs)) ++ text (get_or xs i d) ≡ output ++ flat_map text (take (i + 1) xs)
flat_more text output xs i d within =
    append_assoc output (flat_map text (take i xs)) (text (get_or xs i d))
    ∙ ap (λ l. output ++ l) (sym (ap (flat_map text) (take_more xs i d within) ∙ flat_map-append text (take i xs) (get_or xs i d ∷ [])
    ∙ ap (λ l. flat_map text (take i xs) ++ l) (append-nil (text (get_or xs i d)))))

pub flat_rest : {X : Type 0} (text : X → List ℕ) (output : List ℕ) (xs : List X) (i : ℕ)
    → (output ++ flat_map text (take i xs)) ++ flat_map text (drop i xs) ≡ output ++ flat_map text xs
flat_rest text output xs i =
    append_assoc output (flat_map text (take i xs)) (flat_map text (drop i xs))
    ∙ ap (λ l. output ++ l) (sym (flat_map-append text (take i xs) (drop i xs)) ∙ ap (flat_map text) (take-append-drop i xs))

-- texts by the places of the items
abbrev pub each : {X : Type 0} → (ℕ → X → List ℕ) → ℕ → List X → List ℕ
each text n xs = flat_map (λ p. text p.0 p.1) (enumerate_from n xs)

enumerate_from-append : {X : Type 0} (n : ℕ) (xs ys : List X) → enumerate_from n (xs ++ ys) ≡ enumerate_from n xs ++ enumerate_from (n + length xs) ys
enumerate_from-append n [] ys = ap (λ k. enumerate_from k ys) (omega arith)
enumerate_from-append n (x ∷ xs) ys =
    let e : n + 1 + length xs ≡ n + length (x ∷ xs) = omega arith in
    ap (λ l. (n, x) ∷ l) (enumerate_from-append (n + 1) xs ys ∙ ap (λ k. enumerate_from (n + 1) xs ++ enumerate_from k ys) e)

each-append : {X : Type 0} (text : ℕ → X → List ℕ) (n : ℕ) (xs ys : List X) → each text n (xs ++ ys) ≡ each text n xs ++ each text (n + length xs) ys
each-append text n xs ys =
    ap (flat_map (λ p. text p.0 p.1)) (enumerate_from-append n xs ys)
    ∙ flat_map-append (λ p. text p.0 p.1) (enumerate_from n xs) (enumerate_from (n + length xs) ys)

pub each_more : {X : Type 0} (text : ℕ → X → List ℕ) (output : List ℕ) (xs : List X) (i : ℕ) (d : X) → i < length xs
    → (output ++ each text 0 (take i xs)) ++ text i (get_or xs i d) ≡ output ++ each text 0 (take (i + 1) xs)
each_more text output xs i d within =
    let size : 0 + length (take i xs) ≡ i = ap (λ k. 0 + k) (length-take-le i xs (omega (arith, within))) ∙ omega arith in
    append_assoc output (each text 0 (take i xs)) (text i (get_or xs i d))
    ∙ ap (λ l. output ++ l) (sym (ap (each text 0) (take_more xs i d within) ∙ each-append text 0 (take i xs) (get_or xs i d ∷ [])
    ∙ ap (λ k. each text 0 (take i xs) ++ each text k (get_or xs i d ∷ [])) size
    ∙ ap (λ l. each text 0 (take i xs) ++ l) (append-nil (text i (get_or xs i d)))))

pub each_rest : {X : Type 0} (text : ℕ → X → List ℕ) (output : List ℕ) (xs : List X) (i : ℕ)
    → (output ++ each text 0 (take i xs)) ++ each text (0 + length (take i xs)) (drop i xs) ≡ output ++ each text 0 xs
each_rest text output xs i =
    append_assoc output (each text 0 (take i xs)) (each text (0 + length (take i xs)) (drop i xs))
    ∙ ap (λ l. output ++ l) (sym (each-append text 0 (take i xs) (drop i xs)) ∙ ap (each text 0) (take-append-drop i xs))

-- The texts of fields, one more at a time.
use Rattle.std.proofs.Common.{◌≡◌, ℕ, ◌+◌, List, [], ◌∷◌, ◌++◌, take, get_or, sym, ap, ◌∙◌, Some}
use Rattle.std.proofs.lemmas.List.{append-nil, append_assoc, take_more}
use Rattle.std.proofs.lemmas.List.Concat.{flat_map-append}
use Rattle.std.proofs.lemmas.Option.{get_or_from_slice_get, slice_get_within}
use Rattle.std.specs.List.{flat_map, slice_get}

-- the texts of one more element
pub texts_next : {X A : Type 0} (f : X → List A) (xs : List X) (i : ℕ) (x : X) → slice_get xs i ≡ Some x
    → flat_map f (take i xs) ++ f x ≡ flat_map f (take (i + 1) xs)
texts_next f xs i x is =
    let more = ap (flat_map f) (take_more xs i x (slice_get_within xs i x is)) ∙ flat_map-append f (take i xs) (get_or xs i x ∷ []) in
    sym (more ∙ ap (λ l. flat_map f (take i xs) ++ l) (append-nil (f (get_or xs i x)) ∙ ap f (get_or_from_slice_get xs i x x is)))

-- a name and a value after what comes before
pub pair_after : (before one other name value : List ℕ) → one ≡ name → other ≡ value
    → (before ++ one) ++ other ≡ before ++ (name ++ value)
pair_after before one other name value first second =
    let joined : (before ++ one) ++ other ≡ before ++ (one ++ other) = simp append_assoc in
    joined ∙ ap (λ l. before ++ l) (ap (λ l. l ++ other) first ∙ ap (λ l. name ++ l) second)
